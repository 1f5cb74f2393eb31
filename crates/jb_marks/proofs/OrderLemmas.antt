-- How places stand in the index.
use Rattle.std.proofs.Common.{◌≡◌, ◌<◌, ◌≤◌, ◌+◌, ◌*◌, ◌^◌, inl, inr, ℕ, zero, suc, true, List, [], ◌∷◌, ◌++◌, length, get_or, set, refl, sym, ◌∙◌, ap, subst, arith}
use Rattle.std.specs.Prelude.{Contains, Some, slice_get, insert}
use Rattle.std.specs.List.Sorted.{IsPermutation}
use Rattle.std.proofs.lemmas.Bool.{false_from_ne_true, cases_lt}
use Rattle.std.proofs.lemmas.Bool.Decides.{nat_tests}
use Rattle.std.proofs.lemmas.List.{get_or_default}
use Rattle.std.proofs.Math.ListN.{length-append, length-set}
use Rattle.std.proofs.lemmas.List.Elements.{All-push, Contains-append_left, Contains-push}
use Rattle.std.proofs.lemmas.List.Sorted.{IsPermutation-insert, All-permutation, Contains-permutation, length_permutation, IsNonDecreasingBy-insert}
use Rattle.std.proofs.lemmas.Option.{slice_get-get_or}
use Rattle.jb_state.specs.declared.mark.Mark.{Mark}
use Rattle.jb_state.specs.Marks.{is_mark}
use Rattle.jb_marks.proofs.MarkLemmas.{length-last}
use Rattle.jb_state.specs.Places.{IsFirstOf}
use Rattle.jb_marks.specs.Order.{AreBelow, IsGapFor, IsOrdered, IsSplit, pair_in, pair_number, pair_of, place_number}

-- a mark of a pair has the number of the pair
pub pair_number-of_mark : (crc id : ℕ) (mark : Mark) → is_mark crc id mark ≡ true → pair_number mark.user_crc mark.user_id ≡ pair_number crc id
pair_number-of_mark crc id mark is = grind (arith, nat_tests)

-- two pairs of one number are one
pair-injective : (a i b j : ℕ) → i < 2 ^ 32 → j < 2 ^ 32 → pair_number a i ≡ pair_number b j → (a ≡ b) × (i ≡ j)
pair-injective a i b j small_i small_j same = (omega arith, omega arith)

-- the pair of a place within the marks
pub pair_in-within : (marks : List Mark) (place : ℕ) (d : Mark) → place < length marks → pair_in marks place ≡ ((get_or marks place d).user_crc, (get_or marks place d).user_id)
pair_in-within marks place d within = ap pair_of (slice_get-get_or marks place d within)

-- the number of a place by its pair
number_by_pair : (marks : List Mark) (place a i : ℕ) → pair_in marks place ≡ (a, i) → place_number marks place ≡ pair_number a i * 2 ^ 32 + place
number_by_pair marks place a i is = ap (λ (p : ℕ × ℕ). pair_number p.0 p.1 * 2 ^ 32 + place) is

-- the number of the place of a mark of a pair
place_number-of_mark : (crc id : ℕ) (marks : List Mark) (place : ℕ) (d : Mark) → place < length marks → is_mark crc id (get_or marks place d) ≡ true →
    place_number marks place ≡ pair_number crc id * 2 ^ 32 + place
place_number-of_mark crc id marks place d within is =
    number_by_pair marks place _ _ (pair_in-within marks place d within) ∙ ap (λ (n : ℕ). n * 2 ^ 32 + place) (pair_number-of_mark crc id (get_or marks place d) is)

-- a place of the marks stands somewhere in the index, with its number
stands : (marks : List Mark) (order : List ℕ) (place : ℕ) → IsOrdered marks order → place < length marks →
    (k : ℕ) × (k < length order) × (place_number marks (get_or order k 0) ≡ place_number marks place)
stands marks order place ordered within =
    let at = ordered.places.whole place within in
    (at.0, at.1, ap (λ (p : ℕ). place_number marks p) (get_or_default order at.0 0 place at.1 ∙ at.2))

-- what is not below is at or above
le_from_not_lt : (a b : ℕ) → (b < a → ⊥) → a ≤ b
le_from_not_lt a b above = elim (cases_lt b a) [ inl below ↦ absurd (above below) | inr reached ↦ reached ]

-- of two numbers that differ, the one that is no less is greater
next_from_apart : (a b : ℕ) → a ≤ b → (b ≡ a → ⊥) → a + 1 ≤ b
next_from_apart a b reached apart = elim (cases_lt a b) [ inl below ↦ omega arith | inr back ↦ absurd (apart (omega arith)) ]

-- the places below a split have lower numbers than a place of the pair
above_split : (marks : List Mark) (order : List ℕ) (pair at k : ℕ) → IsSplit marks order pair at → pair * 2 ^ 32 ≤ place_number marks (get_or order k 0) → at ≤ k
above_split marks order pair at k split high = le_from_not_lt at k (λ below. omega (arith, split.lower k 0 below))

-- where the place behind a split is one of the pair, no place before that one is
pub first-from_split : (crc id : ℕ) (marks : List Mark) (order : List ℕ) (at place : ℕ) → IsOrdered marks order → IsSplit marks order (pair_number crc id) at →
    at < length order → get_or order at 0 ≡ place → ((d : Mark) → is_mark crc id (get_or marks place d) ≡ true) → IsFirstOf crc id marks place
first-from_split crc id marks order at place ordered split inside is here =
    let within : place < length marks = subst (λ (p : ℕ). p < length marks) is (ordered.places.each at 0 inside) in
    record {
      within = within;
      here = here;
      before = λ k d below. false_from_ne_true _ (λ there.
          let spot = stands marks order k ordered (omega arith) in
          let lower = place_number-of_mark crc id marks k d (omega arith) there in
          let own = place_number-of_mark crc id marks place d within (here d) in
          let first = ap (λ (p : ℕ). place_number marks p) is in
          let behind : at ≤ spot.0 = above_split marks order (pair_number crc id) at spot.0 split (omega (arith, spot.2, lower)) in
          omega (arith, ordered.rising at spot.0 0 behind spot.1, spot.2, lower, own, first));
    }

-- behind all lower places there is none of the pair where a gap of numbers begins
gap-from_split : (crc id : ℕ) (marks : List Mark) (order : List ℕ) (at : ℕ) → IsOrdered marks order → length marks < 2 ^ 32 → IsSplit marks order (pair_number crc id) at →
    ((k d : ℕ) → at ≤ k → k < length order → (pair_number crc id + 1) * 2 ^ 32 ≤ place_number marks (get_or order k d)) → IsGapFor crc id marks order at
gap-from_split crc id marks order at ordered few split higher = record {
  within = split.within;
  lower = split.lower;
  higher = higher;
  none = λ k d within. false_from_ne_true _ (λ there.
      let spot = stands marks order k ordered within in
      let own = place_number-of_mark crc id marks k d within there in
      let behind : at ≤ spot.0 = above_split marks order (pair_number crc id) at spot.0 split (omega (arith, spot.2, own)) in
      omega (arith, higher spot.0 0 behind spot.1, spot.2, own));
}

-- a split at the end of the index
pub gap-at_end : (crc id : ℕ) (marks : List Mark) (order : List ℕ) (at : ℕ) → IsOrdered marks order → length marks < 2 ^ 32 → IsSplit marks order (pair_number crc id) at →
    length order ≤ at → IsGapFor crc id marks order at
gap-at_end crc id marks order at ordered few split over = gap-from_split crc id marks order at ordered few split (λ k d from below. absurd (omega arith))

-- a split before the place of another pair
pub gap-before_other : (crc id : ℕ) (marks : List Mark) (order : List ℕ) (at place a i : ℕ) → IsOrdered marks order → length marks < 2 ^ 32 →
    IsSplit marks order (pair_number crc id) at → at < length order → get_or order at 0 ≡ place → (a, i) ≡ pair_in marks place → id < 2 ^ 32 → i < 2 ^ 32 →
    (a ≡ crc → i ≡ id → ⊥) → IsGapFor crc id marks order at
gap-before_other crc id marks order at place a i ordered few split inside is pair small_asked small other =
    let within : place < length marks = subst (λ (p : ℕ). p < length marks) is (ordered.places.each at 0 inside) in
    let own = number_by_pair marks place a i (sym pair) in
    let first = ap (λ (p : ℕ). place_number marks p) is in
    let low : pair_number crc id * 2 ^ 32 ≤ place_number marks (get_or order at 0) = split.higher at 0 (omega arith) inside in
    let apart : pair_number a i ≡ pair_number crc id → ⊥ =
    λ same. (let both = pair-injective a i crc id small small_asked same in other both.0 both.1) in
    let above : pair_number crc id + 1 ≤ pair_number a i = next_from_apart (pair_number crc id) (pair_number a i) (omega (arith, own, first, low)) apart in
    gap-from_split crc id marks order at ordered few split (λ k d from below.
    omega (arith, ordered.rising at k 0 from below, own, first, above, ap (λ (p : ℕ). place_number marks p) (get_or_default order k d 0 below)))

-- a mark whose pair is the one asked for
pub is_mark-by_pair : (crc id : ℕ) (marks : List Mark) (place a i : ℕ) (d : Mark) → place < length marks → (a, i) ≡ pair_in marks place → a ≡ crc → i ≡ id →
    is_mark crc id (get_or marks place d) ≡ true
is_mark-by_pair crc id marks place a i d within pair same_crc same_id =
    let is = pair ∙ pair_in-within marks place d within in
    let one : a ≡ (get_or marks place d).user_crc = ap (λ (p : ℕ × ℕ). p.0) is in
    let other : i ≡ (get_or marks place d).user_id = ap (λ (p : ℕ × ℕ). p.1) is in
    grind (arith, nat_tests)

-- the marks' places, and one more, lie within a greater length
each_place : (n most : ℕ) (order : List ℕ) → n < most → ((k d : ℕ) → k < length order → get_or order k d < n) → (k d : ℕ) → k < length (n ∷ order) → get_or (n ∷ order) k d < most
each_place n most order more each zero d within = more
each_place n most order more each (suc k) d within = omega (arith, each k d (omega arith))

-- what stands in a list stands in it behind one more
contained_behind : (n : ℕ) (order : List ℕ) (place : ℕ) → Contains order place → Contains (n ∷ order) place
contained_behind n order place at = (suc at.0, omega (arith, at.1), at.2)

-- the first of a list stands in it
contained_first : (n : ℕ) (order : List ℕ) (place : ℕ) → n ≡ place → Contains (n ∷ order) place
contained_first n order place is = (0, omega arith, is)

-- a mark of a pair has the pair of each other one
same_pair : (mark one : Mark) → is_mark mark.user_crc mark.user_id one ≡ true → ◌≡◌ {A = ℕ × ℕ} (mark.user_crc, mark.user_id) (one.user_crc, one.user_id)
same_pair mark one is =
    let crc : mark.user_crc ≡ one.user_crc = grind (arith, nat_tests) in
    let id : mark.user_id ≡ one.user_id = grind (arith, nat_tests) in
    rw (crc, id) refl

-- a mark that is put last leaves what stands at the places before it
slice_get-before_last : (marks : List Mark) (mark : Mark) (place : ℕ) → place < length marks → slice_get (marks ++ mark ∷ []) place ≡ slice_get marks place
slice_get-before_last [] mark place within = absurd (omega arith)
slice_get-before_last (one ∷ marks) mark zero within = refl
slice_get-before_last (one ∷ marks) mark (suc place) within = slice_get-before_last marks mark place (omega arith)

-- it stands behind them
slice_get-last : (marks : List Mark) (mark : Mark) → slice_get (marks ++ mark ∷ []) (length marks) ≡ Some mark
slice_get-last [] mark = refl
slice_get-last (one ∷ marks) mark = slice_get-last marks mark

-- one number more
pub below-more : (n : ℕ) (order : List ℕ) → AreBelow n order → AreBelow (n + 1) (order ++ n ∷ [])
below-more n order below = record {
  count = omega (arith, length-append {A = ℕ}, below.count);
  each = All-push (λ place. place < n + 1) order n (λ k d within. omega (arith, below.each k d within)) (omega arith);
  whole = λ place within. elim (cases_lt place n) [
    | inl lower ↦ Contains-append_left order (n ∷ []) place (below.whole place lower)
    | inr reached ↦ subst (λ (p : ℕ). Contains (order ++ n ∷ []) p) (let is : n ≡ place = omega arith in is) (Contains-push order n)
  ];
}

-- the index after a new mark
pub ordered-append : (mark : Mark) (marks : List Mark) (order : List ℕ) (at : ℕ) → IsOrdered marks order → length marks < 2 ^ 32 →
    IsGapFor mark.user_crc mark.user_id marks order at → IsOrdered (marks ++ mark ∷ []) (insert order at (length marks))
ordered-append mark marks order at ordered few gap =
    let moved : IsPermutation (length marks ∷ order) (insert order at (length marks)) = IsPermutation-insert order at (length marks) in
    let more : length (marks ++ mark ∷ []) ≡ length marks + 1 = length-last marks mark in
    let own : place_number (marks ++ mark ∷ []) (length marks) ≡ pair_number mark.user_crc mark.user_id * 2 ^ 32 + length marks =
    number_by_pair (marks ++ mark ∷ []) (length marks) mark.user_crc mark.user_id (ap pair_of (slice_get-last marks mark)) in
    let same : (k d : ℕ) → k < length order → place_number (marks ++ mark ∷ []) (get_or order k d) ≡ place_number marks (get_or order k d) =
    λ k d within. number_by_pair (marks ++ mark ∷ []) (get_or order k d) _ _ (ap pair_of (slice_get-before_last marks mark (get_or order k d) (ordered.places.each k d within))) in
    record {
      places = record {
        count = omega (arith, length_permutation _ _ moved, ordered.places.count);
        each = All-permutation (λ place. place < length (marks ++ mark ∷ [])) _ _ moved (each_place (length marks) (length (marks ++ mark ∷ [])) order (omega arith) ordered.places.each);
        whole = λ place within. Contains-permutation _ _ place moved (elim (cases_lt place (length marks)) [
          | inl below ↦ contained_behind (length marks) order place (ordered.places.whole place below)
          | inr above ↦ contained_first (length marks) order place (omega arith)
        ]);
      };
      rising = IsNonDecreasingBy-insert (place_number (marks ++ mark ∷ [])) order at (length marks)
          (λ i j d upto within. omega (arith, same i d (omega arith), same j d within, ordered.rising i j d upto within))
          gap.within
          (λ k d below. omega (arith, own, same k d (omega (arith, gap.within)), gap.lower k d below))
          (λ k d from below. omega (arith, own, same k d below, gap.higher k d from below));
    }

-- a mark of the same pair leaves the pair of each place
pair_in-set : (mark : Mark) (marks : List Mark) (place other : ℕ) → ((d : Mark) → is_mark mark.user_crc mark.user_id (get_or marks place d) ≡ true) →
    pair_in (set marks place mark) other ≡ pair_in marks other
pair_in-set mark [] place other here = refl
pair_in-set mark (one ∷ marks) zero zero here = same_pair mark one (here mark)
pair_in-set mark (one ∷ marks) zero (suc other) here = refl
pair_in-set mark (one ∷ marks) (suc place) zero here = refl
pair_in-set mark (one ∷ marks) (suc place) (suc other) here = pair_in-set mark marks place other here

-- the index after a mark of the same pair
pub ordered-set : (mark : Mark) (marks : List Mark) (order : List ℕ) (place : ℕ) → IsOrdered marks order → IsFirstOf mark.user_crc mark.user_id marks place →
    IsOrdered (set marks place mark) order
ordered-set mark marks order place ordered first =
    let count : length (set marks place mark) ≡ length marks = length-set marks place mark in
    let same : (other : ℕ) → place_number (set marks place mark) other ≡ place_number marks other =
    λ other. number_by_pair (set marks place mark) other _ _ (pair_in-set mark marks place other first.here) in
    record {
      places = record {
        count = ordered.places.count ∙ sym count;
        each = λ k d within. omega (arith, count, ordered.places.each k d within);
        whole = λ other within. ordered.places.whole other (omega (arith, count));
      };
      rising = λ i j d upto within. omega (arith, same (get_or order i d), same (get_or order j d), ordered.rising i j d upto within);
    }
