-- Lists in rising order of keys: where a search in one ends, and what it is after an insertion and a removal.
use Rattle.std.proofs.Common.{◌≡◌, ◌<◌, ◌≤◌, ◌+◌, ◌-◌, ◌⊎◌, inl, inr, ℕ, Bool, true, false, List, length, get_or, refl, sym, ◌∙◌, ap, subst, arith}
use Rattle.std.specs.Prelude.{Contains, insert}
use Rattle.std.specs.Borrow.{Bor}
use Rattle.std.specs.Cmp.{IsTotalOrder, IsStrictWeakOrder}
use Rattle.std.specs.Fn.{Called, ComparesAs, Mut}
use Rattle.std.proofs.lemmas.Fn.{always_returns_same}
use Rattle.std.specs.List.Sorted.{IsPartitionedBy, IsSortedBy}
use Rattle.std.specs.declared.cmp.Ordering.{Ordering}
use Rattle.std.specs.declared.cmp.Ordering.TheVariants.{Less, Equal, Greater}
use Rattle.std.specs.Ordering.{is_lt, ordering_reverse}
use Rattle.std.proofs.lemmas.Bool.{cases_lt}
use Rattle.std.proofs.lemmas.Cmp.{tied_itself}
use Rattle.std.proofs.lemmas.List.Edits.{length-insert, get_or-insert_below, get_or-insert_at, get_or-insert_above}
use Rattle.std.proofs.lemmas.List.{get_or_default}
use Rattle.std.proofs.lemmas.List.Sorted.{ranks_by, sorted_far}
use Rattle.jb_link.specs.Order.{IsRising, IsSplitAt}

-- what is less is `Less`
pub lt_from : (r : Ordering) → is_lt r ≡ true → r ≡ Less
lt_from Less h = refl
lt_from Equal h = cc
lt_from Greater h = cc

-- what is `Less` does not fail the test
pub less_passes : (r : Ordering) → r ≡ Less → is_lt r ≡ false → ⊥
less_passes Less h f = cc
less_passes Equal h f = cc
less_passes Greater h f = cc

-- what is neither less nor equal is greater
greater_from : (r : Ordering) → is_lt r ≡ false → (r ≡ Equal → ⊥) → ordering_reverse r ≡ Less
greater_from Less h apart = cc
greater_from Equal h apart = absurd (apart refl)
greater_from Greater h apart = refl

module _ {X K : Type 0} {order : K → K → Ordering} (o : IsTotalOrder order) (key : X → K) where
  -- nothing is less than itself
  pub not_itself : (a : K) → order a a ≡ Less → ⊥
  not_itself a h = let same = tied_itself o a in cc

  -- a list that rises is cut in two by any key
  pub cut_in_two : (xs : List X) (asked : K) → IsRising order key xs → IsPartitionedBy (λ x. is_lt (order (key x) asked)) xs
  cut_in_two xs asked rising i j d upto within passes =
      elim (cases_lt i j) [
        | inl below ↦
            let second : order (key (get_or xs j d)) asked ≡ Less = lt_from _ passes in
            ap is_lt (o.trans (key (get_or xs i d)) (key (get_or xs j d)) asked (rising i j d below within) second)
        | inr back ↦ subst (λ (k : ℕ). is_lt (order (key (get_or xs k d)) asked) ≡ true) (let same : j ≡ i = omega arith in same) passes
      ]

  -- where the search for a key that stands in the list ends, it stands
  pub found_at_split : (xs : List X) (x : X) (at : ℕ) → IsRising order key xs → IsSplitAt order key xs (key x) at → Contains xs x
      → (at < length xs) × ((d : X) → get_or xs at d ≡ x)
  found_at_split xs x at rising split here =
      let upto : at ≤ here.0 = elim (cases_lt here.0 at) [
        | inl below ↦ absurd (not_itself (key x) (ap (λ y. order (key y) (key x)) (sym here.2) ∙ split.lower here.0 x below))
        | inr reached ↦ reached
      ] in
      let is : at ≡ here.0 = elim (cases_lt at here.0) [
        | inl before ↦
            absurd (less_passes _ (ap (λ y. order (key (get_or xs at x)) (key y)) (sym here.2) ∙ rising at here.0 x before here.1)
            (split.rest at x (omega arith) (omega (arith, here.1))))
        | inr back ↦ omega arith
      ] in
      let within : at < length xs = omega (arith, here.1) in
      (within, λ d. get_or_default xs at d x within ∙ ap (λ k. get_or xs k x) is ∙ here.2)

  -- a new key is put where its search ends
  pub inserted_rises : (xs : List X) (y : X) (at : ℕ) → IsRising order key xs → IsSplitAt order key xs (key y) at
      → ((x : X) → Contains xs x → order (key x) (key y) ≡ Equal → ⊥) → IsRising order key (insert xs at y)
  inserted_rises xs y at rising split fresh i j d before within = by_places (cases_lt j at) (cases_lt at j) (cases_lt i at) (cases_lt at i)
    where
      long : length (insert xs at y) ≡ length xs + 1
      long = length-insert xs at y split.within

      Goal : X → X → Type 0
      Goal a b = order (key a) (key b) ≡ Less

      join : (a b : X) → get_or (insert xs at y) i d ≡ a → get_or (insert xs at y) j d ≡ b → Goal a b → Goal (get_or (insert xs at y) i d) (get_or (insert xs at y) j d)
      join a b at_i at_j h = ap (λ x. order (key x) (key (get_or (insert xs at y) j d))) at_i ∙ ap (λ x. order (key a) (key x)) at_j ∙ h

      below : (k : ℕ) → k < at → get_or (insert xs at y) k d ≡ get_or xs k d
      below k h = get_or-insert_below xs at y d k h split.within

      here : (k : ℕ) → k ≡ at → get_or (insert xs at y) k d ≡ y
      here k h = ap (λ n. get_or (insert xs at y) n d) h ∙ get_or-insert_at xs at y d split.within

      above : (k : ℕ) → at < k → get_or (insert xs at y) k d ≡ get_or xs (k - 1) d
      above k h =
          let next : k ≡ k - 1 + 1 = omega arith in
          ap (λ n. get_or (insert xs at y) n d) next ∙ get_or-insert_above xs at y d (k - 1) (omega arith) split.within

      after : (k : ℕ) → at ≤ k → k < length xs → Goal y (get_or xs k d)
      after k h inside =
          o.antisymm (key y) (key (get_or xs k d))
          ∙ greater_from _ (split.rest k d h inside)
          (fresh (get_or xs k d) (k, inside, get_or_default xs k (get_or xs k d) d inside))

      by_places : (j < at) ⊎ (at ≤ j) → (at < j) ⊎ (j ≤ at) → (i < at) ⊎ (at ≤ i) → (at < i) ⊎ (i ≤ at)
          → Goal (get_or (insert xs at y) i d) (get_or (insert xs at y) j d)
      by_places (inl low_j) high_j low_i high_i =
          join _ _ (below i (omega arith)) (below j low_j) (rising i j d before (omega (arith, split.within)))
      by_places (inr _) (inl high_j) (inl low_i) high_i =
          join _ _ (below i low_i) (above j high_j) (rising i (j - 1) d (omega arith) (omega (arith, long)))
      by_places (inr _) (inl high_j) (inr _) (inl high_i) =
          join _ _ (above i high_i) (above j high_j) (rising (i - 1) (j - 1) d (omega arith) (omega (arith, long)))
      by_places (inr from_i) (inl high_j) (inr low_i) (inr upto_i) =
          join _ _ (here i (omega arith)) (above j high_j) (after (j - 1) (omega arith) (omega (arith, long)))
      by_places (inr low_j) (inr upto_j) low_i high_i =
          join _ _ (below i (omega arith)) (here j (omega arith)) (split.lower i d (omega arith))

  -- a list that is sorted and has no key twice rises
  pub rises_from_sorted : (xs : List X) → IsSortedBy (λ x y. is_lt (order (key x) (key y))) xs
      → ((i j : ℕ) (d : X) → i < j → j < length xs → order (key (get_or xs i d)) (key (get_or xs j d)) ≡ Equal → ⊥) → IsRising order key xs
  rises_from_sorted xs sorted apart i j d before within =
      o.antisymm (key (get_or xs i d)) (key (get_or xs j d))
      ∙ greater_from _ (sorted_far (λ x y. is_lt (order (key x) (key y))) (ranks_by o key) xs sorted i j d (omega arith) within)
      (λ e. apart i j d before within (o.antisymm (key (get_or xs i d)) (key (get_or xs j d)) ∙ ap ordering_reverse e))

  -- what a sort ensures, where each call compares the keys
  pub sorted_by_closure : {F : Type 0} {g : Mut F (Bor X × (Bor X × Unit {0})) Ordering} {f : F} (xs : List X)
      → ((lt : X → X → Bool) → IsStrictWeakOrder lt → ComparesAs g lt f → IsSortedBy lt xs)
      → ((a : Bor X × (Bor X × Unit {0})) (r : Ordering) (f' : F) → Called g f a r f' → (r ≡ order (key a.0.now) (key a.1.0.now)) × (f' ≡ f))
      → IsSortedBy (λ x y. is_lt (order (key x) (key y))) xs
  sorted_by_closure {g = g} {f = f} xs up h =
      up (λ x y. is_lt (order (key x) (key y))) (ranks_by o key)
      (always_returns_same g (λ a r. is_lt r ≡ is_lt (order (key a.0.now) (key a.1.0.now))) f (λ a r f' called. (ap is_lt (h a r f' called).0, (h a r f' called).1)))
