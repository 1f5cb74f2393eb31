-- How an index is held.
use Rattle.std.specs.Prelude.{◌≡◌, ◌+◌, ◌≤◌, length}
use Rattle.jb_limits.specs.declared.limits.TheConstants.{MOST_MARKS}
use Rattle.jb_index.specs.Cut.{NumbersRise}
use Rattle.jb_index.specs.Index.{AreaIndex}
use Rattle.jb_index.specs.declared.index.Index.TheInside.{Inside}

-- the index that is held so
abbrev pub index_in : Inside → AreaIndex
index_in held = record {
  summaries = held.summaries.items;
  marks = held.marks.marks;
  base = held.base;
  next = held.next;
  rules = held.rules;
}

-- the numbers rise, and there is room for as many summaries and marks as the area may have
pub record IsRising (held : Inside) : Type 0 where
  pub rising : NumbersRise held.summaries.items
  pub counted : length held.summaries.items ≤ 4294967295
  pub few : length held.summaries.items ≤ held.rules.slots
  pub summaries_room : held.rules.slots ≤ length held.summaries.items + held.summaries.room
  pub marks_room : length held.marks.marks + held.marks.room ≡ MOST_MARKS
