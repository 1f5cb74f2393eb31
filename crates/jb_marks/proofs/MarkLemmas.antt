-- What the first mark of a pair says of the marks.
use Rattle.std.proofs.Common.{◌≡◌, ◌<◌, ◌+◌, ℕ, zero, suc, ◌⊎◌, inl, inr, List, [], ◌∷◌, ◌++◌, length, get_or, set, refl, ◌∙◌, ap, arith}
use Rattle.std.specs.Prelude.{Some, None, IsSome}
use Rattle.std.proofs.lemmas.Bool.{cond-true, cond-false}
use Rattle.jb_state.specs.declared.mark.Mark.{Mark}
use Rattle.jb_state.specs.Marks.{mark_of, with_mark}
use Rattle.jb_state.specs.Places.{HasNone, IsFirstOf}
use Rattle.jb_marks.specs.Store.{MarkStore}

-- the first mark of a pair, at a place, is the one that is found
pub mark_of-first : (crc id : ℕ) (marks : List Mark) (place : ℕ) (d : Mark) → IsFirstOf crc id marks place → mark_of crc id marks ≡ Some (get_or marks place d)
mark_of-first crc id [] place d first = absurd (omega (arith, first.within))
mark_of-first crc id (mark ∷ marks) zero d first = cond-true _ _ _ (first.here d)
mark_of-first crc id (mark ∷ marks) (suc place) d first =
    cond-false _ _ _ (first.before 0 d (omega arith))
    ∙ mark_of-first crc id marks place d (record { within = omega (arith, first.within); here = first.here; before = λ k e below. first.before (suc k) e (omega arith) })

-- where no mark has the pair, none is found
pub mark_of-none : (crc id : ℕ) (marks : List Mark) → HasNone crc id marks → mark_of crc id marks ≡ None
mark_of-none crc id [] none = refl
mark_of-none crc id (mark ∷ marks) none =
    cond-false _ _ _ (none 0 mark (omega arith)) ∙ mark_of-none crc id marks (λ k e below. none (suc k) e (omega arith))

-- one mark more
pub length-last : (marks : List Mark) (mark : Mark) → length (marks ++ mark ∷ []) ≡ length marks + 1
length-last [] mark = refl
length-last (one ∷ marks) mark = omega (arith, length-last marks mark)

-- where no mark has the pair, it is the room that lets a set begin
pub room_for_new : (mark : Mark) (store : MarkStore) → IsSome (mark_of mark.user_crc mark.user_id store.marks) ⊎ (0 < store.room) →
    HasNone mark.user_crc mark.user_id store.marks → 0 < store.room
room_for_new mark store (inl there) none = absurd (cc (mark_of-none mark.user_crc mark.user_id store.marks none))
room_for_new mark store (inr room) none = room
