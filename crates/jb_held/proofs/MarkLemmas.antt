-- The mark that is set, by its place.
use Rattle.std.proofs.Common.{ℕ, List, [], ◌∷◌, ◌++◌, None, Some, sym, subst}
use Rattle.jb_marks.proofs.OrderLemmas.{ordered-set}
use Rattle.jb_marks.specs.Order.{IsOrdered}
use Rattle.jb_state.specs.Places.{IsPlaceOf}
use Rattle.jb_state.specs.Marks.{with_mark}
use Rattle.jb_state.specs.declared.mark.Mark.{Mark}
use Rattle.jb_state.proofs.MarkLaws.{with_mark-first, with_mark-none}

-- a mark in its place leaves the index as it is
pub ordered_first : (mark : Mark) (place : ℕ) (marks : List Mark) (order : List ℕ) → IsPlaceOf mark.user_crc mark.user_id marks (Some place) → IsOrdered marks order
    → IsOrdered (with_mark mark marks) order
ordered_first mark place marks order first is =
    subst (λ (m : List Mark). IsOrdered m order) (sym (with_mark-first mark marks place first)) (ordered-set mark marks order place is first)

-- the index with one behind the others is that of the marks after the set
pub ordered_last : (mark : Mark) (marks : List Mark) (order : List ℕ) → IsPlaceOf mark.user_crc mark.user_id marks None → IsOrdered (marks ++ mark ∷ []) order
    → IsOrdered (with_mark mark marks) order
ordered_last mark marks order none is = subst (λ (m : List Mark). IsOrdered m order) (sym (with_mark-none mark marks none)) is
