-- What users find after a set.
use Rattle.std.proofs.Common.{◌≡◌, ℕ, true, false, cond, inl, inr, List, [], ◌∷◌, sym, ◌∙◌, ap, arith, subst}
use Rattle.std.specs.Prelude.{Option, Some}
use Rattle.std.proofs.lemmas.Bool.{cases_Bool, cond-true, cond-false}
use Rattle.std.proofs.lemmas.Bool.Decides.{nat_tests}
use Rattle.jb_state.specs.declared.mark.Mark.{Mark}
use Rattle.jb_state.specs.Marks.{is_mark, mark_of, with_mark}
use Rattle.jb_state.specs.Places.{FindOthersAlike}

-- a mark is of its own pair
own_pair : (mark : Mark) → is_mark mark.user_crc mark.user_id mark ≡ true
own_pair mark = grind (arith, nat_tests)

-- after a set, the pair has the mark that was set
pub mark_of-with_mark : (mark : Mark) (marks : List Mark) → mark_of mark.user_crc mark.user_id (with_mark mark marks) ≡ Some mark
mark_of-with_mark mark [] = cond-true _ _ _ (own_pair mark)
mark_of-with_mark mark (one ∷ marks) = elim (cases_Bool (is_mark mark.user_crc mark.user_id one)) [
  | inl is ↦ ap (λ (l : List Mark). mark_of mark.user_crc mark.user_id l) (cond-true _ _ _ is) ∙ cond-true _ _ _ (own_pair mark)
  | inr other ↦ ap (λ (l : List Mark). mark_of mark.user_crc mark.user_id l) (cond-false _ _ _ other) ∙ cond-false _ _ _ other ∙ mark_of-with_mark mark marks
]

-- two marks of one pair are both of another pair, or neither is
apart_alike : (crc id : ℕ) (mark one : Mark) → is_mark crc id mark ≡ false → is_mark mark.user_crc mark.user_id one ≡ true → is_mark crc id one ≡ false
apart_alike crc id mark one apart alike = grind (arith, nat_tests)

-- after a set, every other pair has the mark that it had
pub mark_of-with_other : (crc id : ℕ) (mark : Mark) (marks : List Mark) → is_mark crc id mark ≡ false → mark_of crc id (with_mark mark marks) ≡ mark_of crc id marks
mark_of-with_other crc id mark [] apart = cond-false _ _ _ apart
mark_of-with_other crc id mark (one ∷ marks) apart = elim (cases_Bool (is_mark mark.user_crc mark.user_id one)) [
  | inl is ↦
      ap (λ (l : List Mark). mark_of crc id l) (cond-true _ _ _ is) ∙ cond-false _ _ _ apart ∙ sym (cond-false _ _ _ (apart_alike crc id mark one apart is))
  | inr other ↦
      ap (λ (l : List Mark). mark_of crc id l) (cond-false _ _ _ other) ∙ ap (λ (r : Option Mark). cond (is_mark crc id one) (Some one) r) (mark_of-with_other crc id mark marks apart)
]

-- where these are the marks after a set, the pair has the mark that was set
pub own-after_set : (mark : Mark) (old new : List Mark) → new ≡ with_mark mark old → mark_of mark.user_crc mark.user_id new ≡ Some mark
own-after_set mark old new is = subst (λ (l : List Mark). mark_of mark.user_crc mark.user_id l ≡ Some mark) (sym is) (mark_of-with_mark mark old)

-- and every other pair has the mark that it had
pub others-after_set : (mark : Mark) (old new : List Mark) → new ≡ with_mark mark old → FindOthersAlike mark old new
others-after_set mark old new is = subst (FindOthersAlike mark old) (sym is) (λ crc id apart. mark_of-with_other crc id mark old apart)
