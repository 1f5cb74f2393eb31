-- What an op makes of an index.
use Rattle.std.specs.Prelude.{ℕ, ◌+◌, ◌==◌, ◌||◌, max, min, nat_le, nat_lt, Bool, not, List, [], ◌∷◌, ◌++◌, filter, find, is_some, length, map, if◌then◌else◌}
use Rattle.jb_limits.specs.declared.limits.TheConstants.{MOST_MARKS}
use Rattle.jb_index.specs.Index.{AreaIndex}
use Rattle.jb_index.specs.declared.op.OpEdit.{OpEdit}
use Rattle.jb_index.specs.declared.op.OpEdit.TheVariants.{Put, Drop, Parent, Attribute, Subject, Base, Mark as Marking, Reset}
use Rattle.jb_state.specs.Marks.{mark_of, with_mark}
use Rattle.jb_state.specs.declared.mark.Mark.{Mark}
use Rattle.jb_state.specs.declared.short.Short.{Short}
use Rattle.jb_state.specs.declared.summary.Summary.{Summary}

-- those of them with numbers below this one
abbrev pub below : ℕ → List Summary → List Summary
below number summaries = filter (λ one. nat_lt one.number number) summaries

-- those of them with numbers above this one
abbrev pub above : ℕ → List Summary → List Summary
above number summaries = filter (λ one. nat_lt number one.number) summaries

-- the others with this one, at its number
abbrev pub with_summary : Summary → List Summary → List Summary
with_summary one summaries = below one.number summaries ++ one ∷ above one.number summaries

-- all but the one with this number
abbrev pub without : ℕ → List Summary → List Summary
without number summaries = filter (λ one. not (one.number == number)) summaries

-- the one with this number is changed, the others are as they were
abbrev pub changed_at : ℕ → (Summary → Summary) → List Summary → List Summary
changed_at number change summaries = map (λ one. if one.number == number then change one else one) summaries

-- a summary with another parent
abbrev pub with_parent : ℕ → Summary → Summary
with_parent parent one = record one { parent = parent }

-- a summary with other bits of its attribute
abbrev pub with_attribute : ℕ → Summary → Summary
with_attribute attribute one = record one { attribute = attribute }

-- a summary with another subject
abbrev pub with_kept_subject : Short 72 → Summary → Summary
with_kept_subject subject one = record one { subject = subject }

-- one of them has this number, or so many have room for one more
abbrev pub fits : ℕ → ℕ → List Summary → Bool
fits room number summaries = is_some (find (λ one. one.number == number) summaries) || nat_lt (length summaries) room

-- the pair of the mark has one among them, or there is room for one more
abbrev pub fits_mark : Mark → List Mark → Bool
fits_mark mark marks = is_some (mark_of mark.user_crc mark.user_id marks) || nat_lt (length marks) MOST_MARKS

-- the number above this one, where there is one
abbrev pub number_above : ℕ → ℕ
number_above number = min (number + 1) 4294967295

-- the index after one edit; what does not fit its room changes nothing
abbrev pub edited : AreaIndex → OpEdit → AreaIndex
edited index (Put one) =
    if fits index.rules.slots one.number index.summaries
    then record index { summaries = with_summary one index.summaries; next = max index.next (number_above one.number) }
    else index
edited index (Drop number) = record index { summaries = without number index.summaries }
edited index (Parent number parent) = record index { summaries = changed_at number (with_parent parent) index.summaries }
edited index (Attribute number attribute) = record index { summaries = changed_at number (with_attribute attribute) index.summaries }
edited index (Subject number subject) = record index { summaries = changed_at number (with_kept_subject subject) index.summaries }
edited index (Base base) = record index { base = base }
edited index (Marking mark) = if fits_mark mark index.marks then record index { marks = with_mark mark index.marks } else index
edited index (Reset other) =
    if nat_le (length other.summaries) index.rules.slots
    then record index { summaries = other.summaries; marks = other.marks; base = other.base; next = other.next }
    else index

-- the index after these edits, one after another
abbrev pub absorbed : AreaIndex → List OpEdit → AreaIndex
absorbed index [] = index
absorbed index (edit ∷ rest) = absorbed (edited index edit) rest
