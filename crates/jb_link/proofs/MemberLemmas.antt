-- What stands in a list: one with a new first, after an insertion, after a removal, and in another order.
use Rattle.std.proofs.Common.{◌≡◌, ◌≢◌, ◌<◌, ◌≤◌, ◌+◌, ◌⊎◌, inl, inr, ℕ, zero, suc, List, ◌∷◌, length, get_or, refl, sym, ◌∙◌, ap, arith}
use Rattle.std.specs.Prelude.{Contains, insert, remove, swap, AllPairs}
use Rattle.std.specs.Cmp.{IsTotalOrder}
use Rattle.std.specs.List.Sorted.{IsPermutation}
use Rattle.std.specs.declared.cmp.Ordering.{Ordering}
use Rattle.std.specs.declared.cmp.Ordering.TheVariants.{Less}
use Rattle.std.proofs.lemmas.Bool.{cases_eq, cases_lt, cases_order}
use Rattle.std.proofs.lemmas.List.Edits.{Swapped, length-swap, length-remove, get_or-remove_below, get_or-remove_above, swapped_from_swap}
use Rattle.std.proofs.lemmas.List.{get_or_default}
use Rattle.std.proofs.lemmas.List.Sorted.{Contains-permutation, IsPermutation-insert, IsPermutation-keeps, IsPermutation-remove, IsPermutation-sym}
use Rattle.jb_link.proofs.RisingLemmas.{not_itself}
use Rattle.jb_link.specs.Order.{IsRising}

module _ {X : Type 0} where
  -- what stands in a list with a new first is that or stands behind it
  pub cons_cases : (x : X) (xs : List X) (y : X) → Contains (x ∷ xs) y → (x ≡ y) ⊎ Contains xs y
  cons_cases x xs y (zero, within, is) = inl is
  cons_cases x xs y (suc k, within, is) = inr (k, omega arith, is)

  pub cons_first : (x : X) (xs : List X) (y : X) → x ≡ y → Contains (x ∷ xs) y
  cons_first x xs y is = (0, omega arith, is)

  pub cons_rest : (x : X) (xs : List X) (y : X) → Contains xs y → Contains (x ∷ xs) y
  cons_rest x xs y at = (suc at.0, omega (arith, at.1), at.2)

  -- after an insertion the new one stands there and the others do
  pub inserted_cases : (xs : List X) (at : ℕ) (y x : X) → Contains (insert xs at y) x → (y ≡ x) ⊎ Contains xs x
  inserted_cases xs at y x here =
      cons_cases y xs x (Contains-permutation (insert xs at y) (y ∷ xs) x (IsPermutation-sym (y ∷ xs) (insert xs at y) (IsPermutation-insert xs at y)) here)

  pub inserted_new : (xs : List X) (at : ℕ) (y x : X) → y ≡ x → Contains (insert xs at y) x
  inserted_new xs at y x is = Contains-permutation (y ∷ xs) (insert xs at y) x (IsPermutation-insert xs at y) (cons_first y xs x is)

  pub inserted_old : (xs : List X) (at : ℕ) (y x : X) → Contains xs x → Contains (insert xs at y) x
  inserted_old xs at y x here = Contains-permutation (y ∷ xs) (insert xs at y) x (IsPermutation-insert xs at y) (cons_rest y xs x here)

  -- after a removal the others stand there
  pub removed_old : (xs : List X) (at : ℕ) (x : X) → at < length xs → Contains (remove xs at) x → Contains xs x
  removed_old xs at x within here =
      let y = get_or xs at x in
      let moved : IsPermutation xs (y ∷ remove xs at) = IsPermutation-remove xs at y within (sym (get_or_default xs at y x within)) in
      Contains-permutation (y ∷ remove xs at) xs x (IsPermutation-sym xs (y ∷ remove xs at) moved) (cons_rest y (remove xs at) x here)

  pub removed_rest : (xs : List X) (at : ℕ) (y x : X) → at < length xs → ((d : X) → get_or xs at d ≡ y) → Contains xs x → x ≢ y → Contains (remove xs at) x
  removed_rest xs at y x within is here other =
      elim (cons_cases y (remove xs at) x (Contains-permutation xs (y ∷ remove xs at) x (IsPermutation-remove xs at y within (sym (is y))) here)) [
        | inl same ↦ absurd (other (sym same))
        | inr rest ↦ rest
      ]

  -- no two places of the list have the same
  pub record HasNoTwice (xs : List X) : Type 0 where
    pub apart : (i j : ℕ) (d : X) → i < length xs → j < length xs → i ≢ j → get_or xs i d ≢ get_or xs j d

  -- it is so after two are exchanged
  swapped_apart : (xs : List X) (a b : ℕ) → a < length xs → b < length xs → HasNoTwice xs → HasNoTwice (swap xs a b)
  swapped_apart xs a b in_a in_b h = record { apart = apart }
    where
      ys : List X
      ys = swap xs a b

      long : length ys ≡ length xs
      long = length-swap xs a b

      moves : (d : X) → Swapped (λ i. get_or xs i d) (λ i. get_or ys i d) a b
      moves d = swapped_from_swap xs ys a b d in_a in_b refl

      -- where what stands at a place came from
      from : (k : ℕ) → (k ≡ a) ⊎ (k ≢ a) → (k ≡ b) ⊎ (k ≢ b) → ℕ
      from k (inl is_a) other = b
      from k (inr not_a) (inl is_b) = a
      from k (inr not_a) (inr not_b) = k

      came : (k : ℕ) (d : X) (x : (k ≡ a) ⊎ (k ≢ a)) (y : (k ≡ b) ⊎ (k ≢ b)) → get_or ys k d ≡ get_or xs (from k x y) d
      came k d (inl is_a) other = ap (λ n. get_or ys n d) is_a ∙ (moves d).0
      came k d (inr not_a) (inl is_b) = ap (λ n. get_or ys n d) is_b ∙ (moves d).1
      came k d (inr not_a) (inr not_b) = (moves d).2 k not_a not_b

      inside : (k : ℕ) (x : (k ≡ a) ⊎ (k ≢ a)) (y : (k ≡ b) ⊎ (k ≢ b)) → k < length xs → from k x y < length xs
      inside k (inl is_a) other within = in_b
      inside k (inr not_a) (inl is_b) within = in_a
      inside k (inr not_a) (inr not_b) within = within

      differ : (i j : ℕ) (x : (i ≡ a) ⊎ (i ≢ a)) (y : (i ≡ b) ⊎ (i ≢ b)) (z : (j ≡ a) ⊎ (j ≢ a)) (w : (j ≡ b) ⊎ (j ≢ b)) → i ≢ j → from i x y ≢ from j z w
      differ i j (inl is_a) y (inl also_a) w apart = λ e. apart (is_a ∙ sym also_a)
      differ i j (inl is_a) y (inr not_a) (inl is_b) apart = λ e. apart (is_a ∙ sym e ∙ sym is_b)
      differ i j (inl is_a) y (inr not_a) (inr not_b) apart = λ e. not_b (sym e)
      differ i j (inr not_a) (inl is_b) (inl is_a) w apart = λ e. apart (is_b ∙ sym e ∙ sym is_a)
      differ i j (inr not_a) (inl is_b) (inr other) (inl also_b) apart = λ e. apart (is_b ∙ sym also_b)
      differ i j (inr not_a) (inl is_b) (inr other) (inr not_b) apart = λ e. other (sym e)
      differ i j (inr not_a) (inr not_b) (inl is_a) w apart = λ e. not_b e
      differ i j (inr not_a) (inr not_b) (inr other) (inl is_b) apart = λ e. not_a e
      differ i j (inr not_a) (inr not_b) (inr other) (inr neither) apart = apart

      apart : (i j : ℕ) (d : X) → i < length ys → j < length ys → i ≢ j → get_or ys i d ≢ get_or ys j d
      apart i j d in_i in_j other same =
          let x = cases_eq i a in
          let y = cases_eq i b in
          let z = cases_eq j a in
          let w = cases_eq j b in
          h.apart (from i x y) (from j z w) d (inside i x y (omega (arith, long))) (inside j z w (omega (arith, long))) (differ i j x y z w other)
          (sym (came i d x y) ∙ same ∙ came j d z w)

  -- and so in any other order
  pub permuted_apart : (xs ys : List X) → IsPermutation xs ys → HasNoTwice xs → HasNoTwice ys
  permuted_apart xs ys moved h = IsPermutation-keeps xs HasNoTwice h (λ l i j in_i in_j k. swapped_apart l i j in_i in_j k) ys moved

  -- numbers that rise along a list stand in it once each
  pub rising_apart : (f : X → ℕ) (xs : List X) → AllPairs (λ one other. f one < f other) xs → HasNoTwice xs
  rising_apart f xs rising = record {
    apart = λ i j d in_i in_j other same. elim (cases_order i j) [
      | inl is ↦ other is
      | inr (inl before) ↦ (let above = rising i j d before in_j in let level = ap f same in omega (arith, above, level))
      | inr (inr behind) ↦ (let above = rising j i d behind in_i in let level = ap f same in omega (arith, above, level))
    ];
  }

module _ {X K : Type 0} {order : K → K → Ordering} (o : IsTotalOrder order) (key : X → K) where
  -- what is taken out of a rising list stands in it no more
  pub removed_gone : (xs : List X) (at : ℕ) (y : X) → IsRising order key xs → at < length xs → ((d : X) → get_or xs at d ≡ y) → Contains (remove xs at) y → ⊥
  removed_gone xs at y rising within is here = by_side (cases_lt here.0 at)
    where
      short : length (remove xs at) + 1 ≡ length xs
      short = length-remove xs at within

      twice : (a b : X) → a ≡ y → b ≡ y → order (key a) (key b) ≡ Less → ⊥
      twice a b is_a is_b h = not_itself o key (key y) (ap (λ z. order (key z) (key y)) (sym is_a) ∙ ap (λ z. order (key a) (key z)) (sym is_b) ∙ h)

      by_side : (here.0 < at) ⊎ (at ≤ here.0) → ⊥
      by_side (inl below) =
          twice (get_or xs here.0 y) (get_or xs at y) (sym (get_or-remove_below xs at y here.0 below within) ∙ here.2) (is y) (rising here.0 at y below within)
      by_side (inr above) =
          twice (get_or xs at y) (get_or xs (here.0 + 1) y) (is y) (sym (get_or-remove_above xs at y here.0 above within) ∙ here.2)
          (rising at (here.0 + 1) y (omega arith) (omega (arith, short, here.1)))
