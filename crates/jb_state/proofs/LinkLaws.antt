-- The links are least and greatest elements of sets of live messages.
use Rattle.std.proofs.Common.{◌≡◌, ℕ, zero, suc, ◌+◌, ◌≤◌, Bool, true, false, cond, List, [], ◌∷◌, get_or, map, reverse, ◌++◌, All, Contains, Option, Some, None, find, refl, sym, ◌∙◌, ap, subst, arith}
use Rattle.std.proofs.lemmas.List.{reverse-append}
use Rattle.std.proofs.lemmas.List.Folds.{find-append}
use Rattle.std.specs.Option.{option_or}
use Rattle.jb_state.specs.Links.{IsGreatest, IsLeast, Linkable, RisesFrom, linkable, linkables_of}
use Rattle.jb_state.specs.Live.{live_from}
use Rattle.jb_state.specs.State.{AreaState, SlotState, no_message, killed_message, live_message}

-- a test is not both passed and failed
pub true_not_false : true ≡ false → ⊥
true_not_false e = cc

-- what holds of the first and of the rest holds of each
pub all_cons : {X : Type 0} (P : X → Type 0) (x : X) (xs : List X) → P x → All P xs → All P (x ∷ xs)
all_cons P x xs first rest zero d within = first
all_cons P x xs first rest (suc k) d within = rest k d (omega arith)

-- what holds of each holds of the rest
pub all_rest : {X : Type 0} (P : X → Type 0) (x : X) (xs : List X) → All P (x ∷ xs) → All P xs
all_rest P x xs each k d within = each (suc k) d (omega arith)

-- what the first is, the list contains
pub contains_first : {X : Type 0} (x : X) (xs : List X) → Contains (x ∷ xs) x
contains_first x xs = (0, omega arith, refl)

-- what the rest contains, the list contains
pub contains_rest : {X : Type 0} (x y : X) (xs : List X) → Contains xs y → Contains (x ∷ xs) y
contains_rest x y xs (k, within, is) = (suc k, omega arith, is)

-- numbers that rise are none below the first bound
pub rises_above : (low : ℕ) (live : List Linkable) → RisesFrom low live → All (λ one. low ≤ one.number) live
rises_above low [] rises k d within = absurd (omega arith)
rises_above low (one ∷ rest) rises zero d within = rises.0
rises_above low (one ∷ rest) rises (suc k) d within =
    let above : one.number + 1 ≤ (get_or rest k d).number = rises_above (one.number + 1) rest rises.1 k d (omega arith) in
    let bound : low ≤ one.number = rises.0 in
    omega arith

-- a lower bound holds too
pub rises_lower : (low lower : ℕ) (live : List Linkable) → lower ≤ low → RisesFrom low live → RisesFrom lower live
rises_lower low lower [] below rises = tt
rises_lower low lower (one ∷ rest) below rises = let bound : low ≤ one.number = rises.0 in (omega arith, rises.1)

-- the numbers of live messages rise
pub live_rises : (number : ℕ) (slots : List SlotState) → RisesFrom number (map linkable (live_from number slots))
live_rises number [] = tt
live_rises number (no_message ∷ slots) = rises_lower (number + 1) number _ (omega arith) (live_rises (number + 1) slots)
live_rises number (killed_message ∷ slots) = rises_lower (number + 1) number _ (omega arith) (live_rises (number + 1) slots)
live_rises number (live_message message ∷ slots) = (omega arith, live_rises (number + 1) slots)

-- what the links of an area rest on stands in rising order
pub linkables_rise : (state : AreaState) → RisesFrom state.base (linkables_of state)
linkables_rise state = live_rises state.base state.slots

-- the least of the rest is that of all, where the first does not pass
least_of_rest : (test : Linkable → Bool) (one : Linkable) (rest : List Linkable) (found : Option Linkable) → IsLeast test rest found → test one ≡ false → IsLeast test (one ∷ rest) found
least_of_rest test one rest None none fails = all_cons (λ x. test x ≡ false) one rest fails none
least_of_rest test one rest (Some least) (inside, passes, each) fails = (
  contains_rest one least rest inside,
  passes,
  all_cons (λ x. test x ≡ true → least.number ≤ x.number) one rest (λ p. absurd (true_not_false (sym p ∙ fails))) each,
)

-- the first is the least of all, where it passes
least_is_first : (test : Linkable → Bool) (low : ℕ) (one : Linkable) (rest : List Linkable) → RisesFrom low (one ∷ rest) → test one ≡ true → IsLeast test (one ∷ rest) (Some one)
least_is_first test low one rest rises passes = (
  contains_first one rest,
  passes,
  all_cons (λ x. test x ≡ true → one.number ≤ x.number) one rest (λ p. omega arith)
      (λ k d within p. let above : one.number + 1 ≤ (get_or rest k d).number = rises_above (one.number + 1) rest rises.1 k d within in omega arith),
)

-- by whether the first passes
least_by : (test : Linkable → Bool) (low : ℕ) (one : Linkable) (rest : List Linkable) (b : Bool) → RisesFrom low (one ∷ rest) → IsLeast test rest (find test rest) → test one ≡ b → IsLeast test (one ∷ rest) (cond b (Some one) (find test rest))
least_by test low one rest true rises later passes = least_is_first test low one rest rises passes
least_by test low one rest false rises later fails = least_of_rest test one rest (find test rest) later fails

-- of numbers that rise, the first that passes is the least that does
pub found_is_least : (test : Linkable → Bool) (low : ℕ) (live : List Linkable) → RisesFrom low live → IsLeast test live (find test live)
found_is_least test low [] rises = λ k d within. absurd (omega arith)
found_is_least test low (one ∷ rest) rises =
    least_by test low one rest (test one) rises (found_is_least test (one.number + 1) rest rises.1) refl

-- the greatest of the rest is that of all
greatest_of_rest : (test : Linkable → Bool) (one greatest : Linkable) (rest : List Linkable) → RisesFrom (one.number + 1) rest → IsGreatest test rest (Some greatest) → IsGreatest test (one ∷ rest) (Some greatest)
greatest_of_rest test one greatest rest rises ((k, within, is), passes, each) = (
  contains_rest one greatest rest (k, within, is),
  passes,
  all_cons (λ x. test x ≡ true → x.number ≤ greatest.number) one rest
      (λ p. let above : one.number + 1 ≤ (get_or rest k greatest).number = rises_above (one.number + 1) rest rises k greatest within in
      let same : (get_or rest k greatest).number ≡ greatest.number = ap (λ (x : Linkable). x.number) is in
      omega arith)
      each,
)

-- where none of the rest passes, the first is the greatest, or none is
greatest_by : (test : Linkable → Bool) (one : Linkable) (rest : List Linkable) (b : Bool) → IsGreatest test rest None → test one ≡ b → IsGreatest test (one ∷ rest) (cond b (Some one) None)
greatest_by test one rest true none passes = (
  contains_first one rest,
  passes,
  all_cons (λ x. test x ≡ true → x.number ≤ one.number) one rest (λ p. omega arith)
      (λ k d within p. absurd (true_not_false (sym p ∙ none k d within))),
)
greatest_by test one rest false none fails = all_cons (λ x. test x ≡ false) one rest fails none

-- by what was found in the rest
greatest_among : (test : Linkable → Bool) (one : Linkable) (rest : List Linkable) (found : Option Linkable) → RisesFrom (one.number + 1) rest → IsGreatest test rest found → IsGreatest test (one ∷ rest) (option_or found (cond (test one) (Some one) None))
greatest_among test one rest None rises none = greatest_by test one rest (test one) none refl
greatest_among test one rest (Some greatest) rises later = greatest_of_rest test one greatest rest rises later

-- of numbers that rise, the first that passes from behind is the greatest that does
pub last_is_greatest : (test : Linkable → Bool) (low : ℕ) (live : List Linkable) → RisesFrom low live → IsGreatest test live (find test (reverse live))
last_is_greatest test low [] rises = λ k d within. absurd (omega arith)
last_is_greatest test low (one ∷ rest) rises =
    let P : Option Linkable → Type 0 = λ found. IsGreatest test (one ∷ rest) found in
    let behind : reverse (one ∷ rest) ≡ reverse rest ++ one ∷ [] = reverse-append (one ∷ []) rest in
    let split : find test (reverse (one ∷ rest)) ≡ option_or (find test (reverse rest)) (cond (test one) (Some one) None) =
    ap (find test) behind ∙ find-append test (reverse rest) (one ∷ []) in
    subst P (sym split) (greatest_among test one rest (find test (reverse rest)) rises.1 (last_is_greatest test (one.number + 1) rest rises.1))
