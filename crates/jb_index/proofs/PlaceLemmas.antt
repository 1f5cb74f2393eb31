-- Where numbers stand in a list in which they rise.
use Rattle.std.proofs.Common.{◌≡◌, inl, inr, ℕ, zero, suc, ◌<◌, ◌≤◌, Bool, true, false, ◌&&◌, ◌==◌, cond, List, [], ◌∷◌, Option, Some, None, filter, find, length, drop, get_or, nat_le, slice_get, refl, sym, ◌∙◌, ap, arith, eq-eqb, ne_eqb}
use Rattle.std.specs.Prelude.{All, is_some, max}
use Rattle.std.proofs.lemmas.Bool.{cases_order, cond_both, le-leb, lt-leb}
use Rattle.std.proofs.lemmas.Bool.Decides.{nat_tests}
use Rattle.std.proofs.lemmas.Option.{get_or_from_slice_get}
use Rattle.std.proofs.lemmas.List.{get_or_default}
use Rattle.std.proofs.lemmas.List.Elements.{filter_agree}
use Rattle.jb_state.specs.declared.summary.Summary.{Summary}
use Rattle.jb_index.specs.Cut.{IsSplitAt, IsSummaryPlace, NumbersRise}
use Rattle.jb_index.proofs.ListLemmas.{filter_behind, filter_cut, filter_filter}

-- where another number stands at the place of this one, none has it
pub not_at : (xs : List Summary) (number at : ℕ) (one : Summary) → NumbersRise xs → IsSplitAt xs number at → slice_get xs at ≡ Some one → (one.number ≡ number → ⊥)
    → All (λ x. (x.number == number) ≡ false) xs
not_at xs number at one rises cut here other = λ k d within. ne_eqb _ _ (differs k d within)
  where
    there : (d : Summary) → (get_or xs at d).number ≡ one.number
    there d = ap (λ (x : Summary). x.number) (get_or_from_slice_get xs at one d here)

    differs : (k : ℕ) (d : Summary) → k < length xs → (get_or xs k d).number ≡ number → ⊥
    differs k d within same =
        elim (cases_order k at) [
          | inl place ↦ other (sym (there d) ∙ ap (λ n. (get_or xs n d).number) (sym place) ∙ same)
          | inr (inl below) ↦ (let low : (get_or xs k d).number < number = cut.lower k d below in absurd (omega arith))
          | inr (inr behind) ↦
              (let more : (get_or xs at d).number < (get_or xs k d).number = rises at k d behind within in
              let from : number ≤ (get_or xs at d).number = cut.rest at d (omega arith) (omega arith) in
              absurd (omega arith))
        ]

-- where no place is found, none has the number
pub none_there : (xs : List Summary) (number : ℕ) (found : Option ℕ) → IsSummaryPlace xs number found → ((at : ℕ) → found ≡ Some at → ⊥) → All (λ x. (x.number == number) ≡ false) xs
none_there xs number None place other = place
none_there xs number (Some at) place other = absurd (other at refl)

-- nothing is found where nothing passes
pub find_none : {X : Type 0} (p : X → Bool) (xs : List X) → ((k : ℕ) (d : X) → k < length xs → p (get_or xs k d) ≡ false) → find p xs ≡ None
find_none p [] fails = refl
find_none p (x ∷ xs) fails =
    let here : p x ≡ false = fails 0 x (omega arith) in
    rw here (find_none p xs (λ k d within. fails (suc k) d (omega arith)))

-- the first that passes is found
pub find_first : {X : Type 0} (p : X → Bool) (xs : List X) (at : ℕ) (one : X) → at < length xs → one ≡ get_or xs at one → p one ≡ true
    → ((k : ℕ) (d : X) → k < at → p (get_or xs k d) ≡ false) → find p xs ≡ Some one
find_first p [] at one within read passes fails = absurd (omega arith)
find_first p (x ∷ xs) zero one within read passes fails =
    let here : p x ≡ true = ap p (sym read) ∙ passes in
    rw here (ap Some (sym read))
find_first p (x ∷ xs) (suc at) one within read passes fails =
    let here : p x ≡ false = fails 0 x (omega arith) in
    rw here (find_first p xs at one (omega arith) read passes (λ k d below. fails (suc k) d (omega arith)))

-- the one at a place is found by its number
pub find_at_place : (xs : List Summary) (at : ℕ) (one : Summary) → NumbersRise xs → at < length xs → one ≡ get_or xs at one
    → find (λ x. x.number == one.number) xs ≡ Some one
find_at_place xs at one rises within read =
    find_first (λ x. x.number == one.number) xs at one within read (eq-eqb one.number one.number refl) (λ k d below. ne_eqb _ _ (lower k d below))
  where
    lower : (k : ℕ) (d : Summary) → k < at → (get_or xs k d).number ≡ one.number → ⊥
    lower k d below same =
        let less : (get_or xs k d).number < (get_or xs at d).number = rises k at d below within in
        let here : (get_or xs at d).number ≡ one.number = ap (λ (x : Summary). x.number) (get_or_default xs at d one within) ∙ ap (λ (x : Summary). x.number) (sym read) in
        absurd (omega arith)

-- what passes each test passes both
pub both_pass : (a b : Bool) → a ≡ true → b ≡ true → (a && b) ≡ true
both_pass a b one other = ap (λ x. x && b) one ∙ other

-- what fails the first test fails both
pub first_fails : (a b : Bool) → a ≡ false → (a && b) ≡ false
first_fails a b fails = ap (λ x. x && b) fails

-- what fails the second test fails both
pub second_fails : (a b : Bool) → b ≡ false → (a && b) ≡ false
second_fails true b fails = fails
second_fails false b fails = refl

-- what is found in a filter passes both
pub find_filter : {X : Type 0} (p q : X → Bool) (xs : List X) → find p (filter q xs) ≡ find (λ x. q x && p x) xs
find_filter p q [] = refl
find_filter p q (x ∷ xs) = by (q x) (p x) refl refl (find_filter p q xs)
  where
    by : (a b : Bool) → q x ≡ a → p x ≡ b → find p (filter q xs) ≡ find (λ x. q x && p x) xs
        → find p (cond a (x ∷ filter q xs) (filter q xs)) ≡ cond (a && b) (Some x) (find (λ x. q x && p x) xs)
    by true true qx px rest = rw px refl
    by true false qx px rest = rw px rest
    by false b qx px rest = rest

-- where one passes, one is found
pub is_some_find : {X : Type 0} (p : X → Bool) (xs : List X) (at : ℕ) (d : X) → at < length xs → p (get_or xs at d) ≡ true → is_some (find p xs) ≡ true
is_some_find p [] at d within passes = absurd (omega arith)
is_some_find p (x ∷ xs) zero d within passes = rw passes refl
is_some_find p (x ∷ xs) (suc at) d within passes =
    cond_both (p x) (Some x) (find p xs) (λ found. is_some found ≡ true) (λ here. refl) (λ other. is_some_find p xs at d (omega arith) passes)

-- what none has is not found among those that are listed
pub none_found : (listed : Summary → Bool) (xs : List Summary) (number : ℕ) → All (λ one. (one.number == number) ≡ false) xs
    → false ≡ is_some (find (λ one. one.number == number) (filter listed xs))
none_found listed xs number none =
    sym (ap is_some (find_filter (λ one. one.number == number) listed xs
    ∙ find_none (λ one. listed one && (one.number == number)) xs (λ k d within. second_fails (listed (get_or xs k d)) _ (none k d within))))

-- what stands at a place and is listed is found among those that are
pub one_found : (listed : Summary → Bool) (xs : List Summary) (number at : ℕ) (one : Summary) → at < length xs → one ≡ get_or xs at one
    → ((d : Summary) → (get_or xs at d).number ≡ number) → listed one ≡ true → true ≡ is_some (find (λ x. x.number == number) (filter listed xs))
one_found listed xs number at one within read numbered shown =
    let passes : listed (get_or xs at one) ≡ true = ap listed (sym read) ∙ shown in
    let same : ((get_or xs at one).number == number) ≡ true = eq-eqb _ _ (numbered one) in
    sym (ap is_some (find_filter (λ x. x.number == number) listed xs)
    ∙ is_some_find (λ x. listed x && (x.number == number)) xs at one within (ap (λ b. b && ((get_or xs at one).number == number)) passes ∙ same))

-- what stands at a place and is not listed is not found among those that are
pub one_hidden : (listed : Summary → Bool) (xs : List Summary) (number at : ℕ) (one : Summary) → NumbersRise xs → at < length xs → one ≡ get_or xs at one
    → ((d : Summary) → (get_or xs at d).number ≡ number) → listed one ≡ false → false ≡ is_some (find (λ x. x.number == number) (filter listed xs))
one_hidden listed xs number at one rises within read numbered hidden =
    sym (ap is_some (find_filter (λ x. x.number == number) listed xs
    ∙ find_none (λ x. listed x && (x.number == number)) xs fails))
  where
    fails : (k : ℕ) (d : Summary) → k < length xs → (listed (get_or xs k d) && ((get_or xs k d).number == number)) ≡ false
    fails k d inside =
        elim (cases_order k at) [
          | inl same ↦
              (let here : get_or xs k d ≡ one = ap (λ n. get_or xs n d) same ∙ get_or_default xs at d one within ∙ sym read in
              ap (λ b. b && ((get_or xs k d).number == number)) (ap listed here ∙ hidden))
          | inr (inl below) ↦
              second_fails (listed (get_or xs k d)) _
              (ne_eqb _ _ (λ e. let less : (get_or xs k d).number < (get_or xs at d).number = rises k at d below within in let is : (get_or xs at d).number ≡ number = numbered d in omega arith))
          | inr (inr behind) ↦
              second_fails (listed (get_or xs k d)) _
              (ne_eqb _ _ (λ e. let more : (get_or xs at d).number < (get_or xs k d).number = rises at k d behind inside in let is : (get_or xs at d).number ≡ number = numbered d in omega arith))
        ]

-- where none of a kind is below the lowest, those of the kind with numbers from one on stand behind the place of the greater of the two
pub kind_behind : (kind shown : Summary → Bool) (xs : List Summary) (from lowest at : ℕ) → ((one : Summary) → kind one ≡ true → lowest ≤ one.number)
    → IsSplitAt xs (max from lowest) at
    → filter (λ one. nat_le from one.number) (filter kind (filter shown xs)) ≡ filter (λ one. shown one && kind one) (drop at xs)
kind_behind kind shown xs from lowest at low cut =
    filter_filter above kind (filter shown xs) ∙ filter_agree (λ one. kind one && above one) (λ one. kind one && both one) same (filter shown xs)
    ∙ sym (filter_filter both kind (filter shown xs)) ∙ filter_behind both kind shown xs at behind
  where
    above : Summary → Bool
    above one = nat_le from one.number

    both : Summary → Bool
    both one = nat_le (max from lowest) one.number

    behind : filter both xs ≡ drop at xs
    behind = filter_cut both xs at cut.within (λ k d below. lt-leb _ _ (cut.lower k d below)) (λ k d on within. le-leb _ _ (cut.rest k d on within))

    same : (one : Summary) → (kind one && above one) ≡ (kind one && both one)
    same one = by (kind one) refl
      where
        by : (b : Bool) → kind one ≡ b → (b && above one) ≡ (b && both one)
        by true is = (let least : lowest ≤ one.number = low one is in grind (arith, nat_tests))
        by false is = refl
