-- Keys of messages: how they stand to one another, one more of them, and all of them sorted.
use Rattle.std.proofs.Common.{◌≡◌, ◌<◌, ◌≤◌, ◌+◌, ◌/◌, inl, inr, ℕ, false, List, [], ◌∷◌, ◌++◌, length, get_or, refl, sym, ◌∙◌, ap, subst, arith}
use Rattle.std.specs.Prelude.{All, Some, IsSome, is_some, unwrap_or}
use Rattle.std.specs.Cmp.{nat_cmp_is}
use Rattle.std.specs.List.Sorted.{IsPermutation, IsSortedBy}
use Rattle.std.specs.Ordering.{is_lt, nat_cmp, ordering_then}
use Rattle.std.specs.declared.cmp.Ordering.{Ordering}
use Rattle.std.specs.declared.cmp.Ordering.TheVariants.{Less, Equal, Greater}
use Rattle.std.proofs.Math.Nat.{div-mul-le_self, le_trans}
use Rattle.std.proofs.lemmas.Nat.{le-div}
use Rattle.std.proofs.lemmas.Bool.{cases_lt}
use Rattle.std.proofs.lemmas.List.{get_or-map, length-map, map_push}
use Rattle.std.proofs.lemmas.List.Elements.{All-push}
use Rattle.std.proofs.lemmas.List.Sorted.{All-permutation, IsPermutation-map}
use Rattle.jb_link.specs.Ids.{hash_of}
use Rattle.jb_state.specs.declared.loaded.Loaded.{Loaded}
use Rattle.jb_link.proofs.IdListLemmas.{ids_more, ids_same, ids_sorted}
use Rattle.jb_link.proofs.SearchLemmas.{less_nat}
use Rattle.jb_link.specs.IdLists.{AreIdsBelow, IsIdList, hash_at, id_at, id_place}
use Rattle.jb_link.specs.Keys.{AreKeysBelow, key_number, key_place, numbers_of}
use Rattle.jb_link.specs.Order.{id_order, key_order}

-- a number that stands so is greater
greater_is : (x y : ℕ) → nat_cmp x y ≡ Greater → y < x
greater_is x y is = elim (cases_lt y x) [
  | inl above ↦ above
  | inr upto ↦ elim (cases_lt x y) [
    | inl below ↦ let other : Less ≡ nat_cmp x y = nat_cmp_is x y Less below in cc
    | inr from ↦ let other : Equal ≡ nat_cmp x y = nat_cmp_is x y Equal (omega arith) in cc
  ]
]

-- a hash whose upper bits are less is less
below_by_tops : (one other wide : ℕ) → 0 < wide → one / 2 / wide < other / 2 / wide → one < other
below_by_tops one other wide some tops = elim (cases_lt one other) [
  | inl below ↦ below
  | inr from ↦
      let halves : other / 2 ≤ one / 2 = omega arith in
      let upper : other / 2 / wide ≤ one / 2 / wide = le-div (other / 2 / wide) (one / 2) wide some (le_trans (div-mul-le_self (other / 2) wide) halves) in
      absurd (omega (arith, tops, upper))
]

-- where the upper bits decide, they decide as the hashes do
tops_first : (tops hashes ids numbers : Ordering) → (tops ≡ Less → hashes ≡ Less) → (tops ≡ Greater → hashes ≡ Greater)
    → ordering_then tops (ordering_then (ordering_then hashes ids) numbers) ≡ ordering_then (ordering_then hashes ids) numbers
tops_first Less hashes ids numbers less greater = sym (ap (λ first. ordering_then (ordering_then first ids) numbers) (less refl))
tops_first Equal hashes ids numbers less greater = refl
tops_first Greater hashes ids numbers less greater = sym (ap (λ first. ordering_then (ordering_then first ids) numbers) (greater refl))

-- ids with the upper bits of their own hashes stand as they do without
pub by_own_tops : (wide : ℕ) (one other : List ℕ × ℕ) → 0 < wide
    → key_order (hash_of one.0 / 2 / wide, one) (hash_of other.0 / 2 / wide, other) ≡ id_order one other
by_own_tops wide one other some =
    tops_first _ (nat_cmp (hash_of one.0) (hash_of other.0)) _ (nat_cmp one.1 other.1)
    (λ is. sym (nat_cmp_is (hash_of one.0) (hash_of other.0) Less (below_by_tops (hash_of one.0) (hash_of other.0) wide some (less_nat _ _ is))))
    (λ is. sym (nat_cmp_is (hash_of one.0) (hash_of other.0) Greater (below_by_tops (hash_of other.0) (hash_of one.0) wide some (greater_is _ _ is))))

-- one number more, with an id and without
pub keys_more : (kind : ℕ) (loaded : Loaded) (wide end key : ℕ) (id : List ℕ) (keys : List ℕ) → AreKeysBelow kind loaded wide end keys
    → id_at kind loaded end ≡ Some id → key / wide ≡ hash_of id / 2 / wide → key_number loaded.base wide key ≡ end → AreKeysBelow kind loaded wide (end + 1) (keys ++ key ∷ [])
keys_more kind loaded wide end key id keys were is top number = record {
  below = subst (λ numbers. AreIdsBelow kind loaded (end + 1) numbers)
      (sym (map_push (key_number loaded.base wide) keys key ∙ ap (λ n. numbers_of loaded.base wide keys ++ n ∷ []) number))
      (ids_more kind loaded end (numbers_of loaded.base wide keys) were.below (subst (λ found. IsSome found) (sym is) refl));
  tops = All-push (λ one. one / wide ≡ hash_at kind loaded (key_number loaded.base wide one) / 2 / wide) keys key were.tops
      (top ∙ sym (ap (λ n. hash_at kind loaded n / 2 / wide) number ∙ ap (λ found. hash_of (unwrap_or found []) / 2 / wide) is));
}

pub keys_same : (kind : ℕ) (loaded : Loaded) (wide end : ℕ) (keys : List ℕ) → AreKeysBelow kind loaded wide end keys
    → is_some (id_at kind loaded end) ≡ false → AreKeysBelow kind loaded wide (end + 1) keys
keys_same kind loaded wide end keys were none = record {
  below = ids_same kind loaded end (numbers_of loaded.base wide keys) were.below none;
  tops = were.tops;
}

-- the numbers of all ids, once their keys are sorted
pub keys_sorted : (kind : ℕ) (loaded : Loaded) (wide : ℕ) (keys sorted : List ℕ) → 0 < wide → AreKeysBelow kind loaded wide (loaded.base + length loaded.slots) keys
    → IsPermutation keys sorted
    → IsSortedBy (λ one other. is_lt (key_order (key_place kind loaded loaded.base wide one) (key_place kind loaded loaded.base wide other))) sorted
    → IsIdList kind loaded (numbers_of loaded.base wide sorted)
keys_sorted kind loaded wide keys sorted some were moved rises =
    ids_sorted kind loaded (numbers_of loaded.base wide keys) (numbers_of loaded.base wide sorted) were.below (IsPermutation-map (key_number loaded.base wide) keys sorted moved)
    (λ k d low within.
    let long : length (numbers_of loaded.base wide sorted) ≡ length sorted = length-map sorted (key_number loaded.base wide) in
    numbers_rise k d (omega (arith, within, long)) (rises k 0 low (omega (arith, within, long))))
  where
    place_of : ℕ → ℕ × (List ℕ × ℕ)
    place_of key = key_place kind loaded loaded.base wide key

    own : All (λ key. key / wide ≡ hash_at kind loaded (key_number loaded.base wide key) / 2 / wide) sorted
    own = All-permutation (λ key. key / wide ≡ hash_at kind loaded (key_number loaded.base wide key) / 2 / wide) keys sorted moved were.tops

    stands : ℕ → List ℕ × ℕ
    stands k = id_place kind loaded (key_number loaded.base wide (get_or sorted k 0))

    place_is : (k : ℕ) → k < length sorted → place_of (get_or sorted k 0) ≡ (hash_of (stands k).0 / 2 / wide, stands k)
    place_is k within = ap (λ top. (top, stands k)) (own k 0 within)

    number_is : (k d : ℕ) → k < length sorted → id_place kind loaded (get_or (numbers_of loaded.base wide sorted) k d) ≡ stands k
    number_is k d within = ap (id_place kind loaded) (get_or-map (key_number loaded.base wide) sorted k 0 d within)

    numbers_rise : (k d : ℕ) → k + 1 < length sorted → is_lt (key_order (place_of (get_or sorted (k + 1) 0)) (place_of (get_or sorted k 0))) ≡ false
        → is_lt (id_order (id_place kind loaded (get_or (numbers_of loaded.base wide sorted) (k + 1) d)) (id_place kind loaded (get_or (numbers_of loaded.base wide sorted) k d))) ≡ false
    numbers_rise k d within h =
        ap is_lt (ap (λ place. id_order place (id_place kind loaded (get_or (numbers_of loaded.base wide sorted) k d))) (number_is (k + 1) d within)
        ∙ ap (λ place. id_order (stands (k + 1)) place) (number_is k d (omega arith))
        ∙ sym (by_own_tops wide (stands (k + 1)) (stands k) some)
        ∙ sym (ap (λ place. key_order place (hash_of (stands k).0 / 2 / wide, stands k)) (place_is (k + 1) within))
        ∙ sym (ap (λ place. key_order (place_of (get_or sorted (k + 1) 0)) place) (place_is k (omega arith))))
        ∙ h
