-- How marks are kept with their index.
use Rattle.std.specs.Prelude.{◌+◌, ◌≤◌, length, vec_capacity}
use Rattle.jb_limits.specs.declared.limits.TheConstants.{MOST_MARKS}
use Rattle.jb_marks.specs.declared.marks.Marks.TheInside.{Inside}
use Rattle.jb_marks.specs.Order.{IsOrdered}
use Rattle.jb_marks.specs.Store.{MarkStore}

-- the marks and the room that are kept so
abbrev pub store_of : Inside → MarkStore
store_of kept = record { marks = kept.items.items; room = kept.room }

-- the index is that of the marks, and both have the room
pub record IsIndexed (kept : Inside) : Type 0 where
  pub ordered : IsOrdered kept.items.items kept.index.order
  pub few : length kept.items.items + kept.room ≤ MOST_MARKS
  pub marks_room : length kept.items.items + kept.room ≤ vec_capacity kept.items
  pub index_room : length kept.items.items + kept.room ≤ kept.index.room
