-- The mark that is set, by its place.
use Rattle.std.proofs.Common.{◌≡◌, ℕ, zero, suc, List, [], ◌∷◌, ◌++◌, set, refl, ◌∙◌, ap, sym, arith}
use Rattle.std.specs.Prelude.{None, Some, slice_set}
use Rattle.std.proofs.lemmas.Bool.{cond-true, cond-false}
use Rattle.jb_state.specs.Loaded.{with_marks}
use Rattle.jb_state.specs.Marks.{with_mark}
use Rattle.jb_state.specs.Places.{HasNone, IsFirstOf, IsPlaceOf}
use Rattle.jb_state.specs.declared.loaded.Loaded.{Loaded}
use Rattle.jb_state.specs.declared.mark.Mark.{Mark}

-- a set changes the first mark of the pair
pub with_mark-first : (mark : Mark) (marks : List Mark) (place : ℕ) → IsFirstOf mark.user_crc mark.user_id marks place → with_mark mark marks ≡ set marks place mark
with_mark-first mark [] place first = absurd (omega (arith, first.within))
with_mark-first mark (one ∷ marks) zero first = cond-true _ _ _ (first.here mark)
with_mark-first mark (one ∷ marks) (suc place) first =
    cond-false _ _ _ (first.before 0 mark (omega arith))
    ∙ ap (λ (l : List Mark). one ∷ l) (with_mark-first mark marks place (record { within = omega (arith, first.within); here = first.here; before = λ k e below. first.before (suc k) e (omega arith) }))

-- a set puts a mark of a new pair last
pub with_mark-none : (mark : Mark) (marks : List Mark) → HasNone mark.user_crc mark.user_id marks → with_mark mark marks ≡ marks ++ mark ∷ []
with_mark-none mark [] none = refl
with_mark-none mark (one ∷ marks) none =
    cond-false _ _ _ (none 0 one (omega arith)) ∙ ap (λ (l : List Mark). one ∷ l) (with_mark-none mark marks (λ k e below. none (suc k) e (omega arith)))

-- a mark in the place of the one of its pair
pub marked_first : (mark : Mark) (place : ℕ) (loaded : Loaded) → IsPlaceOf mark.user_crc mark.user_id loaded.marks (Some place)
    → with_marks (slice_set loaded.marks place mark) loaded ≡ with_marks (with_mark mark loaded.marks) loaded
marked_first mark place loaded first = ap (λ (m : List Mark). with_marks m loaded) (sym (with_mark-first mark loaded.marks place first))

-- a mark behind the others
pub marked_last : (mark : Mark) (loaded : Loaded) → IsPlaceOf mark.user_crc mark.user_id loaded.marks None
    → with_marks (loaded.marks ++ mark ∷ []) loaded ≡ with_marks (with_mark mark loaded.marks) loaded
marked_last mark loaded none = ap (λ (m : List Mark). with_marks m loaded) (sym (with_mark-none mark loaded.marks none))
