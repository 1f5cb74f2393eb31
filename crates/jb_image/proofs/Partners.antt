-- The lowest extent that shares a byte with one before it, and the lowest that it shares one with.
use Rattle.std.proofs.Common.{◌≡◌, inl, inr, ℕ, ◌<◌, ◌≤◌, true, List, [], ◌∷◌, ◌++◌, Option, get_or, take, refl, sym, subst, arith, le_antisymm, length-take}
use Rattle.std.specs.List.{AllPairs}
use Rattle.std.specs.Option.{MatchOption, is_some}
use Rattle.std.proofs.lemmas.Bool.{cases_lt, some_since}
use Rattle.std.proofs.lemmas.List.{get_or-take, get_or_default, take_more}
use Rattle.std.proofs.lemmas.List.Quantifiers.{all_pairs_push}
use Rattle.jb_image.specs.declared.extent.Extent.{Extent}
use Rattle.jb_image.specs.declared.overlapping.Overlap.{Overlap}
use Rattle.jb_image.specs.Extents.{AreDisjoint, HoldsByte, ShareByte, IsFirstOverlap}
use Rattle.jb_image.specs.OverlapSearch.{IsDisjointFromAll, IsLowestOther, IsLowestPartner}

-- one that shares no byte with any before it is not the lowest that does
shares_with_one : (xs : List Extent) (other : ℕ) (d : Extent) → IsLowestOther xs other
    → IsDisjointFromAll (take other xs) (get_or xs other d) → ⊥
shares_with_one xs other d lowest none =
    let pairs : AllPairs AreDisjoint (take other xs ++ get_or xs other d ∷ []) =
    all_pairs_push AreDisjoint (take other xs) (get_or xs other d) lowest.before none in
    lowest.with_it (subst (AllPairs AreDisjoint) (sym (take_more xs other d lowest.placed)) pairs)

-- so a search for the lowest partner finds one
pub finds_partner : (xs : List Extent) (other : ℕ) (d : Extent) (found : Option ℕ) → IsLowestOther xs other
    → MatchOption found (IsDisjointFromAll (take other xs) (get_or xs other d)) (IsLowestPartner (take other xs) (get_or xs other d))
    → is_some found ≡ true
finds_partner xs other d found lowest answer =
    some_since found (IsDisjointFromAll (take other xs) (get_or xs other d)) (IsLowestPartner (take other xs) (get_or xs other d)) answer (shares_with_one xs other d lowest)

-- a relation between equal values
same_pair : (R : Extent → Extent → Type 0) {x y u v : Extent} → x ≡ u → y ≡ v → R x y → R u v
same_pair R {x} {y} {u} {v} first second holds = subst (λ z. R z v) first (subst (R x) second holds)

-- and the two are the first that share a byte
pub first_of_lowest : (xs : List Extent) (one other : ℕ) (e : Extent) → IsLowestOther xs other → IsLowestPartner (take other xs) (get_or xs other e) one
    → IsFirstOverlap xs (record { one = one; other = other })
first_of_lowest xs one other e lowest partner =
    let before : one < other = omega (arith, partner.placed, length-take other xs) in
    let there : (d : Extent) → get_or xs other e ≡ get_or xs other d = λ d. get_or_default xs other e d lowest.placed in
    record {
      before = before;
      placed = lowest.placed;
      shared = λ d. same_pair ShareByte (get_or-take other xs one d before) (there d) (partner.shared d);
      lowest_other = lowest.before;
      lowest_one = λ k d below. same_pair AreDisjoint (get_or-take other xs k d (omega arith)) (there d) (partner.none_below k d below);
    }

-- two places below the lowest that shares a byte share none
none_below : (xs : List Extent) (overlap : Overlap) → IsFirstOverlap xs overlap → (j k : ℕ) (d : Extent) → j < k → k < overlap.other
    → ShareByte (get_or xs j d) (get_or xs k d) → ⊥
none_below xs overlap first j k d below low shared =
    let apart : AreDisjoint (get_or xs j d) (get_or xs k d) =
    same_pair AreDisjoint (get_or-take overlap.other xs j d (omega arith)) (get_or-take overlap.other xs k d low)
    (first.lowest_other j k d below (omega (arith, length-take overlap.other xs, first.placed))) in
    apart shared.0 shared.1 shared.2

-- no overlap is first where another's `other` is lower
not_lower : (xs : List Extent) (overlap again : Overlap) → IsFirstOverlap xs overlap → IsFirstOverlap xs again → again.other ≤ overlap.other
not_lower xs overlap again first second = elim (cases_lt overlap.other again.other) [
  | inl below ↦
      let d : Extent = record { start = 0; len = 0 } in
      absurd (none_below xs again second overlap.one overlap.other d first.before below (first.shared d))
  | inr reached ↦ reached
]

-- nor where another's `one` is lower
not_before : (xs : List Extent) (overlap again : Overlap) → overlap.other ≡ again.other → IsFirstOverlap xs overlap → IsFirstOverlap xs again
    → again.one ≤ overlap.one
not_before xs overlap again same first second = elim (cases_lt overlap.one again.one) [
  | inl below ↦
      let d : Extent = record { start = 0; len = 0 } in
      let byte = first.shared d in
      absurd (second.lowest_one overlap.one d below byte.0 byte.1 (subst (λ n. HoldsByte (get_or xs n d) byte.0) same byte.2))
  | inr reached ↦ reached
]

-- a list has at most one first overlap
pub one_first : (xs : List Extent) (overlap again : Overlap) → IsFirstOverlap xs overlap → IsFirstOverlap xs again → overlap ≡ again
one_first xs overlap again first second =
    let others : overlap.other ≡ again.other =
    le_antisymm (not_lower xs again overlap second first) (not_lower xs overlap again first second) in
    let ones : overlap.one ≡ again.one =
    le_antisymm (not_before xs again overlap (sym others) second first) (not_before xs overlap again others first second) in
    subst (λ n. overlap ≡ record { one = n; other = again.other }) ones
    (subst (λ n. overlap ≡ record { one = overlap.one; other = n }) others refl)
