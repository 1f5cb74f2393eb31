-- Extents sorted by their starts: what neighbours say of all pairs.
use Rattle.std.proofs.Common.{◌≡◌, inl, inr, ℕ, ◌+◌, ◌<◌, ◌≤◌, Bool, true, false, not, ◌&&◌, ltb, List, length, get_or, sym, subst, arith}
use Rattle.std.specs.Bool.{MatchBool}
use Rattle.std.specs.List.{All, AllPairs, AllAdjacentBelow, IsAllAdjacentAnswer, filter}
use Rattle.std.specs.List.Sorted.{IsPermutation, IsNonDecreasingBy}
use Rattle.std.proofs.lemmas.Bool.{cases_lt, ltb-true, ltb-false, lt-ltb, and_parts, and_from, false_from_ne_true, not-true, not-false, both_ways}
use Rattle.std.proofs.lemmas.List.Elements.{filter_passes, All-weaker}
use Rattle.std.proofs.lemmas.List.Kept.{AllPairs-filter}
use Rattle.std.proofs.lemmas.List.Sorted.{All-permutation, IsPermutation-sym}
use Rattle.jb_image.specs.declared.extent.Extent.{Extent}
use Rattle.jb_image.specs.Extents.{AreDisjoint, ShareByte, HoldsByte}
use Rattle.jb_image.specs.OverlapSearch.{SaysDisjoint}
use Rattle.jb_image.proofs.Pairs.{all_pairs_permutation, all_pairs_from_filter}

-- the extent has bytes
abbrev pub has_bytes : Extent → Bool
has_bytes extent = ltb 0 extent.len

-- both have bytes, and each begins before the other ends
abbrev pub meet : Extent → Extent → Bool
meet one other = (has_bytes one && has_bytes other) && (ltb one.start (other.start + other.len) && ltb other.start (one.start + one.len))

-- a byte of both
meet_from_byte : (one other : Extent) (i : ℕ) → HoldsByte one i → HoldsByte other i → meet one other ≡ true
meet_from_byte one other i first second =
    let bytes = and_from (has_bytes one) (has_bytes other) (lt-ltb 0 one.len (omega (arith, first.0, first.1))) (lt-ltb 0 other.len (omega (arith, second.0, second.1))) in
    let ends = and_from (ltb one.start (other.start + other.len)) (ltb other.start (one.start + one.len))
    (lt-ltb one.start (other.start + other.len) (omega (arith, first.0, second.1))) (lt-ltb other.start (one.start + one.len) (omega (arith, first.1, second.0))) in
    and_from (has_bytes one && has_bytes other) (ltb one.start (other.start + other.len) && ltb other.start (one.start + one.len)) bytes ends

-- the later of the two starts is a byte of both
byte_from_meet : (one other : Extent) → meet one other ≡ true → ShareByte one other
byte_from_meet one other both =
    let parts = and_parts (has_bytes one && has_bytes other) (ltb one.start (other.start + other.len) && ltb other.start (one.start + one.len)) both in
    let bytes = and_parts (has_bytes one) (has_bytes other) parts.0 in
    let ends = and_parts (ltb one.start (other.start + other.len)) (ltb other.start (one.start + one.len)) parts.1 in
    let one_some = ltb-true 0 one.len bytes.0 in
    let other_some = ltb-true 0 other.len bytes.1 in
    let one_before = ltb-true one.start (other.start + other.len) ends.0 in
    let other_before = ltb-true other.start (one.start + one.len) ends.1 in
    elim (cases_lt one.start other.start) [
      | inl below ↦ (other.start, (omega arith, other_before), (omega arith, omega arith))
      | inr above ↦ (one.start, (omega arith, omega arith), (above, one_before))
    ]

-- no byte belongs to both, either way round
disjoint_flip : (one other : Extent) → AreDisjoint one other → AreDisjoint other one
disjoint_flip one other apart i first second = apart i second first

-- a test that tells by the bytes is that one
pub told_by_meet : (one other : Extent) (r : Bool) → MatchBool r (ShareByte one other) (AreDisjoint one other) → r ≡ meet one other
told_by_meet one other true told = sym (meet_from_byte one other told.0 told.1 told.2)
told_by_meet one other false told = sym (false_from_ne_true (meet one other) (λ both.
    let byte = byte_from_meet one other both in
    told byte.0 byte.1 byte.2))

-- an extent without bytes is disjoint from any
without_bytes : (one other : Extent) → has_bytes one ≡ false → AreDisjoint one other
without_bytes one other none i first second = absurd (omega (arith, ltb-false 0 one.len none, first.0, first.1))

-- sorted by their starts, and each disjoint from the next, all are disjoint
disjoint_from_neighbours : (xs : List Extent) → All (λ x. 0 < x.len) xs → IsNonDecreasingBy (λ x. x.start) xs
    → AllAdjacentBelow AreDisjoint xs (length xs) → AllPairs AreDisjoint xs
disjoint_from_neighbours xs hold rises apart i j d below low k one other =
    let here : Extent = get_or xs i d in
    let next : Extent = get_or xs (i + 1) d in
    let last : Extent = get_or xs j d in
    let up : here.start ≤ next.start = rises i (i + 1) d (omega arith) (omega arith) in
    let far : next.start ≤ last.start = rises (i + 1) j d (omega arith) low in
    let some : 0 < next.len = hold (i + 1) d (omega arith) in
    elim (cases_lt next.start (here.start + here.len)) [
      | inl inside ↦ absurd (apart i d (omega arith) next.start (up, inside) (omega arith, omega arith))
      | inr behind ↦ absurd (omega (arith, one.1, other.0))
    ]

-- neighbours that share a byte are two of the list
shared_from_neighbours : (xs : List Extent) (k : ℕ) → k + 1 < length xs → ((d : Extent) → ShareByte (get_or xs k d) (get_or xs (k + 1) d))
    → AllPairs AreDisjoint xs → ⊥
shared_from_neighbours xs k low shared pairs =
    let none : Extent = record { start = 0; len = 0 } in
    let both = shared none in
    pairs k (k + 1) none (omega arith) low both.0 both.1 both.2

-- what the test says of two
apart_from_meet : (one other : Extent) → true ≡ not (meet one other) → AreDisjoint one other
apart_from_meet one other answer i first second =
    both_ways (meet one other) (not-true (meet one other) (sym answer)) (meet_from_byte one other i first second)

shared_from_meet : (one other : Extent) → false ≡ not (meet one other) → ShareByte one other
shared_from_meet one other answer = byte_from_meet one other (not-false (meet one other) (sym answer))

-- what the comparison of neighbours says of the list as it was, before those without bytes were left out and the rest sorted
pub answer_for : (xs kept sorted : List Extent) (r : Bool) → kept ≡ filter has_bytes xs → IsPermutation kept sorted
    → IsNonDecreasingBy (λ x. x.start) sorted → IsAllAdjacentAnswer (λ x y b. b ≡ not (meet x y)) sorted r
    → SaysDisjoint xs r
answer_for xs kept sorted true kept_is moved rises answer =
    let hold : All (λ x. 0 < x.len) sorted = All-permutation (λ x. 0 < x.len) kept sorted moved
    (subst (All (λ x. 0 < x.len)) (sym kept_is) (All-weaker (λ x. has_bytes x ≡ true) (λ x. 0 < x.len) (λ x passes. ltb-true 0 x.len passes) (filter has_bytes xs) (filter_passes has_bytes xs))) in
    let neighbours : AllAdjacentBelow AreDisjoint sorted (length sorted) =
    λ k d low. apart_from_meet (get_or sorted k d) (get_or sorted (k + 1) d) (answer k d low) in
    all_pairs_from_filter AreDisjoint has_bytes without_bytes (λ x y none. disjoint_flip y x (without_bytes y x none)) xs
    (subst (AllPairs AreDisjoint) kept_is
    (all_pairs_permutation AreDisjoint disjoint_flip sorted kept (IsPermutation-sym kept sorted moved) (disjoint_from_neighbours sorted hold rises neighbours)))
answer_for xs kept sorted false kept_is moved rises answer = λ pairs.
    shared_from_neighbours sorted answer.0 answer.1 (λ d. shared_from_meet (get_or sorted answer.0 d) (get_or sorted (answer.0 + 1) d) (answer.2 d))
    (all_pairs_permutation AreDisjoint disjoint_flip kept sorted moved (subst (AllPairs AreDisjoint) (sym kept_is) (AllPairs-filter AreDisjoint has_bytes xs pairs)))
