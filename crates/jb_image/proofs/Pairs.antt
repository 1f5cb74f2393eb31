-- A relation between all pairs of a list, where the list is put in another order, and where items are left out of it.
use Rattle.std.proofs.Common.{◌≡◌, inl, inr, ℕ, zero, suc, ◌<◌, Bool, false, List, [], ◌∷◌, length, get_or, ap, sym, ◌∙◌, refl, subst, arith}
use Rattle.std.specs.List.{All, AllPairs, filter, swap}
use Rattle.std.specs.List.Sorted.{IsPermutation}
use Rattle.std.proofs.lemmas.Bool.{cases_eq, cases_order, cases_Bool, cond-true, cond-false}
use Rattle.std.proofs.lemmas.List.Edits.{Swapped, swapped_from_swap, length-swap}
use Rattle.std.proofs.lemmas.List.Elements.{All-head, All-tail, All-cons}
use Rattle.std.proofs.lemmas.List.Kept.{AllPairs-cons}
use Rattle.std.proofs.lemmas.List.Sorted.{IsPermutation-keeps}

-- of a relation that holds both ways round, any two places
pub all_pairs_at : {X : Type 0} (R : X → X → Type 0) → ((x y : X) → R x y → R y x) → (xs : List X) → AllPairs R xs
    → (i j : ℕ) (d : X) → (i ≡ j → ⊥) → i < length xs → j < length xs → R (get_or xs i d) (get_or xs j d)
all_pairs_at R flip xs pairs i j d differ i_in j_in = elim (cases_order i j) [
  | inl same ↦ absurd (differ same)
  | inr other ↦ elim other [
    | inl below ↦ pairs i j d below j_in
    | inr above ↦ flip _ _ (pairs j i d above i_in)
  ]
]

-- two values that are those of another function at two places
carried : {X : Type 0} (R : X → X → Type 0) (x y u v : X) → u ≡ x → v ≡ y → R x y → R u v
carried R x y u v first second holds = subst (λ z. R z v) (sym first) (subst (R x) (sym second) holds)

-- two places after an exchange
swapped_at : {X : Type 0} (R : X → X → Type 0) (f g : ℕ → X) (n a b : ℕ) → Swapped f g a b → a < n → b < n
    → ((i j : ℕ) → (i ≡ j → ⊥) → i < n → j < n → R (f i) (f j))
    → (i j : ℕ) → (i ≡ j → ⊥) → i < n → j < n → R (g i) (g j)
swapped_at R f g n a b moved a_in b_in pairs i j differ i_in j_in = elim (cases_eq i a) [
  | inl i_a ↦ elim (cases_eq j b) [
    | inl j_b ↦ carried R (f b) (f a) (g i) (g j) (ap g i_a ∙ moved.0) (ap g j_b ∙ moved.1) (pairs b a (λ same. differ (i_a ∙ sym same ∙ sym j_b)) b_in a_in)
    | inr j_not_b ↦ carried R (f b) (f j) (g i) (g j) (ap g i_a ∙ moved.0) (moved.2 j (λ j_a. differ (i_a ∙ sym j_a)) j_not_b) (pairs b j (λ same. j_not_b (sym same)) b_in j_in)
  ]
  | inr i_not_a ↦ elim (cases_eq i b) [
    | inl i_b ↦ elim (cases_eq j a) [
      | inl j_a ↦ carried R (f a) (f b) (g i) (g j) (ap g i_b ∙ moved.1) (ap g j_a ∙ moved.0) (pairs a b (λ same. differ (i_b ∙ sym same ∙ sym j_a)) a_in b_in)
      | inr j_not_a ↦ carried R (f a) (f j) (g i) (g j) (ap g i_b ∙ moved.1) (moved.2 j j_not_a (λ j_b. differ (i_b ∙ sym j_b))) (pairs a j (λ same. j_not_a (sym same)) a_in j_in)
    ]
    | inr i_not_b ↦ elim (cases_eq j a) [
      | inl j_a ↦ carried R (f i) (f b) (g i) (g j) (moved.2 i i_not_a i_not_b) (ap g j_a ∙ moved.0) (pairs i b i_not_b i_in b_in)
      | inr j_not_a ↦ elim (cases_eq j b) [
        | inl j_b ↦ carried R (f i) (f a) (g i) (g j) (moved.2 i i_not_a i_not_b) (ap g j_b ∙ moved.1) (pairs i a i_not_a i_in a_in)
        | inr j_not_b ↦ carried R (f i) (f j) (g i) (g j) (moved.2 i i_not_a i_not_b) (moved.2 j j_not_a j_not_b) (pairs i j differ i_in j_in)
      ]
    ]
  ]
]

-- all pairs after an exchange
all_pairs_swap : {X : Type 0} (R : X → X → Type 0) → ((x y : X) → R x y → R y x) → (xs : List X) (a b : ℕ) → a < length xs → b < length xs
    → AllPairs R xs → AllPairs R (swap xs a b)
all_pairs_swap R flip xs a b a_in b_in pairs i j d below j_in =
    let same_len : length (swap xs a b) ≡ length xs = length-swap xs a b in
    swapped_at R (λ k. get_or xs k d) (λ k. get_or (swap xs a b) k d) (length xs) a b (swapped_from_swap xs (swap xs a b) a b d a_in b_in refl) a_in b_in
    (λ p q differ p_in q_in. all_pairs_at R flip xs pairs p q d differ p_in q_in)
    i j (λ same. omega arith) (omega arith) (omega arith)

-- a relation that holds both ways round passes to the same items in another order
pub all_pairs_permutation : {X : Type 0} (R : X → X → Type 0) → ((x y : X) → R x y → R y x) → (xs ys : List X) → IsPermutation xs ys
    → AllPairs R xs → AllPairs R ys
all_pairs_permutation R flip xs ys moved pairs =
    IsPermutation-keeps xs (AllPairs R) pairs (λ l i j i_in j_in held. all_pairs_swap R flip l i j i_in j_in held) ys moved

-- the first item and each later one
pub all_pairs_head : {X : Type 0} (R : X → X → Type 0) (x : X) (xs : List X) → AllPairs R (x ∷ xs) → All (R x) xs
all_pairs_head R x xs pairs k d low = pairs zero (suc k) d (omega arith) (omega arith)

-- all pairs but those of the first item
pub all_pairs_tail : {X : Type 0} (R : X → X → Type 0) (x : X) (xs : List X) → AllPairs R (x ∷ xs) → AllPairs R xs
all_pairs_tail R x xs pairs i j d below low = pairs (suc i) (suc j) d (omega arith) (omega arith)

-- what holds of the items that pass, and of any that does not
all_from_filter : {X : Type 0} (P : X → Type 0) (p : X → Bool) → ((x : X) → p x ≡ false → P x) → (xs : List X) → All P (filter p xs) → All P xs
all_from_filter P p else [] all = λ k d low. absurd (omega arith)
all_from_filter P p else (x ∷ xs) all = elim (cases_Bool (p x)) [
  | inl passes ↦
      let kept : All P (x ∷ filter p xs) = subst (All P) (cond-true (p x) (x ∷ filter p xs) (filter p xs) passes) all in
      All-cons P x xs (All-head P x (filter p xs) kept) (all_from_filter P p else xs (All-tail P x (filter p xs) kept))
  | inr fails ↦
      let kept : All P (filter p xs) = subst (All P) (cond-false (p x) (x ∷ filter p xs) (filter p xs) fails) all in
      All-cons P x xs (else x fails) (all_from_filter P p else xs kept)
]

-- where an item that does not pass is in the relation with any, the pairs of those that pass are enough
pub all_pairs_from_filter : {X : Type 0} (R : X → X → Type 0) (p : X → Bool) → ((x y : X) → p x ≡ false → R x y) → ((x y : X) → p y ≡ false → R x y)
    → (xs : List X) → AllPairs R (filter p xs) → AllPairs R xs
all_pairs_from_filter R p first second [] pairs = λ i j d below low. absurd (omega arith)
all_pairs_from_filter R p first second (x ∷ xs) pairs = elim (cases_Bool (p x)) [
  | inl passes ↦
      let kept : AllPairs R (x ∷ filter p xs) = subst (AllPairs R) (cond-true (p x) (x ∷ filter p xs) (filter p xs) passes) pairs in
      AllPairs-cons R x xs (all_from_filter (R x) p (second x) xs (all_pairs_head R x (filter p xs) kept))
      (all_pairs_from_filter R p first second xs (all_pairs_tail R x (filter p xs) kept))
  | inr fails ↦
      let kept : AllPairs R (filter p xs) = subst (AllPairs R) (cond-false (p x) (x ∷ filter p xs) (filter p xs) fails) pairs in
      AllPairs-cons R x xs (λ k d low. first x _ fails) (all_pairs_from_filter R p first second xs kept)
]
