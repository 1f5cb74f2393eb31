-- Where a search ends among keys of a first part and a number.
use Rattle.std.proofs.Common.{◌≡◌, ◌<◌, ◌≤◌, ◌+◌, ◌-◌, ◌⊎◌, inl, inr, ℕ, true, false, cond, ◌==◌, List, [], ◌∷◌, length, get_or, refl, sym, ◌∙◌, ap, arith}
use Rattle.std.specs.Prelude.{AllPairs, Contains}
use Rattle.std.specs.Cmp.{IsTotalOrder}
use Rattle.std.specs.Ordering.{is_lt, nat_cmp, ordering_reverse, ordering_then}
use Rattle.std.specs.declared.cmp.Ordering.{Ordering}
use Rattle.std.specs.declared.cmp.Ordering.TheVariants.{Less, Equal, Greater}
use Rattle.std.proofs.lemmas.Bool.{cases_lt, le-ltb, lt-ltb}
use Rattle.std.proofs.lemmas.Cmp.{tied_itself}
use Rattle.jb_link.proofs.RisingLemmas.{less_passes}
use Rattle.jb_link.proofs.PartLemmas.{in_part, part_at, part_long, part_of_list}
use Rattle.jb_link.specs.Order.{IsPartWith, IsRising, IsSplitAt}
use Rattle.jb_link.specs.Part.{part}

-- the lower number is `Less`
nat_less : (a b : ℕ) → a < b → nat_cmp a b ≡ Less
nat_less a b h = ap (λ t. cond t Less (cond (a == b) Equal Greater)) (lt-ltb a b h)

-- and the other way round
pub less_nat : (a b : ℕ) → nat_cmp a b ≡ Less → a < b
less_nat a b h = elim (cases_lt a b) [
  | inl below ↦ below
  | inr above ↦ absurd (reached (a == b) (sym (ap (λ t. cond t Less (cond (a == b) Equal Greater)) (le-ltb a b above)) ∙ h))
]
  where
    reached : (t : _) → cond t Equal Greater ≡ Less → ⊥
    reached true e = cc
    reached false e = cc

module _ {X I : Type 0} {R : I → I → Ordering} (o : IsTotalOrder R) (exact : (a b : I) → R a b ≡ Equal → a ≡ b) (key : X → I × ℕ) where
  -- by the first part, then by the number
  abbrev both : I × ℕ → I × ℕ → Ordering
  both one other = ordering_then (R one.0 other.0) (nat_cmp one.1 other.1)

  never_less : (a : I) → R a a ≡ Less → ⊥
  never_less a h = let same = tied_itself o a in cc

  never_round : (a b : I) → R a b ≡ Less → R b a ≡ Less → ⊥
  never_round a b h g = never_less a (o.trans a b a h g)

  -- what comes before: by the first part or, where that is the same, by the number
  before_by : (p q : I × ℕ) → both p q ≡ Less → (R p.0 q.0 ≡ Less) ⊎ ((p.0 ≡ q.0) × (p.1 < q.1))
  before_by p q h = by (R p.0 q.0) refl h
    where
      by : (r : Ordering) → R p.0 q.0 ≡ r → ordering_then r (nat_cmp p.1 q.1) ≡ Less → (R p.0 q.0 ≡ Less) ⊎ ((p.0 ≡ q.0) × (p.1 < q.1))
      by Less e g = inl e
      by Equal e g = inr (exact p.0 q.0 e, less_nat p.1 q.1 g)
      by Greater e g = cc

  -- what does not
  not_before : (p q : I × ℕ) → is_lt (both p q) ≡ false → (R q.0 p.0 ≡ Less) ⊎ (p.0 ≡ q.0)
  not_before p q h = by (R p.0 q.0) refl h
    where
      by : (r : Ordering) → R p.0 q.0 ≡ r → is_lt (ordering_then r (nat_cmp p.1 q.1)) ≡ false → (R q.0 p.0 ≡ Less) ⊎ (p.0 ≡ q.0)
      by Less e g = cc
      by Equal e g = inr (exact p.0 q.0 e)
      by Greater e g = inl (o.antisymm q.0 p.0 ∙ ap ordering_reverse e)

  -- with the same first part the number decides
  before_from : (a : I) (m n : ℕ) → m < n → both (a, m) (a, n) ≡ Less
  before_from a m n h = ap (λ r. ordering_then r (nat_cmp m n)) (tied_itself o a) ∙ nat_less m n h

  -- it comes before what has the same first part and a greater number
  level_less : (p : I × ℕ) (a : I) (n : ℕ) → p.0 ≡ a → p.1 < n → both p (a, n) ≡ Less
  level_less p a n same h = ap (λ b. both (b, p.1) (a, n)) same ∙ before_from a p.1 n h

  -- a search for a first part with a number ends at the least number from that on with it
  pub first_among : (xs : List X) (asked : I) (low at : ℕ) (x : X) → IsRising both key xs → IsSplitAt both key xs (asked, low) at → Contains xs x → (key x).0 ≡ asked
      → low ≤ (key x).1
      → (at < length xs) × (((key (get_or xs at x)).0 ≡ asked) × ((key (get_or xs at x)).1 ≤ (key x).1))
  first_among xs asked low at x rising split here is high =
      let upto : at ≤ here.0 = elim (cases_lt here.0 at) [
        | inl below ↦
            (let lower : both (key x) (asked, low) ≡ Less = ap (λ y. both (key y) (asked, low)) (sym here.2) ∙ split.lower here.0 x below in
            elim (before_by (key x) (asked, low) lower) [
              | inl less ↦ absurd (never_less asked (ap (λ a. R a asked) (sym is) ∙ less))
              | inr (same, number) ↦ absurd (omega (arith, number))
            ])
        | inr reached ↦ reached
      ] in
      let within : at < length xs = omega (arith, here.1) in
      let front : (R asked (key (get_or xs at x)).0 ≡ Less) ⊎ ((key (get_or xs at x)).0 ≡ asked) = not_before (key (get_or xs at x)) (asked, low) (split.rest at x (omega arith) within) in
      (within, by_place (cases_lt at here.0) front upto)
    where
      by_place : (at < here.0) ⊎ (here.0 ≤ at) → (R asked (key (get_or xs at x)).0 ≡ Less) ⊎ ((key (get_or xs at x)).0 ≡ asked) → at ≤ here.0
          → ((key (get_or xs at x)).0 ≡ asked) × ((key (get_or xs at x)).1 ≤ (key x).1)
      by_place (inr reached) front upto =
          let same : get_or xs at x ≡ x = ap (λ k. get_or xs k x) (let one : at ≡ here.0 = omega arith in one) ∙ here.2 in
          (ap (λ y. (key y).0) same ∙ is, (let number : (key (get_or xs at x)).1 ≡ (key x).1 = ap (λ y. (key y).1) same in omega (arith, number)))
      by_place (inl below) front upto =
          let lower : both (key (get_or xs at x)) (key x) ≡ Less = ap (λ y. both (key (get_or xs at x)) (key y)) (sym here.2) ∙ rising at here.0 x below here.1 in
          by_parts (before_by (key (get_or xs at x)) (key x) lower) front
        where
          by_parts : (R (key (get_or xs at x)).0 (key x).0 ≡ Less) ⊎ (((key (get_or xs at x)).0 ≡ (key x).0) × ((key (get_or xs at x)).1 < (key x).1))
              → (R asked (key (get_or xs at x)).0 ≡ Less) ⊎ ((key (get_or xs at x)).0 ≡ asked)
              → ((key (get_or xs at x)).0 ≡ asked) × ((key (get_or xs at x)).1 ≤ (key x).1)
          by_parts (inr (same, number)) front = (same ∙ is, omega (arith, number))
          by_parts (inl less) (inl more) = absurd (never_round asked (key (get_or xs at x)).0 more (ap (λ a. R (key (get_or xs at x)).0 a) (sym is) ∙ less))
          by_parts (inl less) (inr same) =
              absurd (never_less asked (ap (λ a. R a asked) (sym same) ∙ ap (λ a. R (key (get_or xs at x)).0 a) (sym is) ∙ less))

  -- a search for a first part with a number above all ends behind the greatest number with it
  pub last_among : (xs : List X) (asked : I) (top at : ℕ) (x : X) → IsRising both key xs → IsSplitAt both key xs (asked, top) at → Contains xs x → (key x).0 ≡ asked → (key x).1 < top
      → (0 < at) × (((key (get_or xs (at - 1) x)).0 ≡ asked) × ((key x).1 ≤ (key (get_or xs (at - 1) x)).1))
  last_among xs asked top at x rising split here is below_top =
      let low : both (key x) (asked, top) ≡ Less = ap (λ a. both (a, (key x).1) (asked, top)) is ∙ before_from asked (key x).1 top below_top in
      let inside : here.0 < at = elim (cases_lt here.0 at) [
        | inl below ↦ below
        | inr reached ↦
            absurd (less_passes _ low (ap (λ y. is_lt (both (key y) (asked, top))) (sym here.2) ∙ split.rest here.0 x reached here.1))
      ] in
      let back : (R (key (get_or xs (at - 1) x)).0 asked ≡ Less) ⊎ (((key (get_or xs (at - 1) x)).0 ≡ asked) × ((key (get_or xs (at - 1) x)).1 < top)) =
      before_by (key (get_or xs (at - 1) x)) (asked, top) (split.lower (at - 1) x (omega arith)) in
      (omega arith, by_place (cases_lt here.0 (at - 1)) back inside)
    where
      by_place : (here.0 < at - 1) ⊎ (at - 1 ≤ here.0)
          → (R (key (get_or xs (at - 1) x)).0 asked ≡ Less) ⊎ (((key (get_or xs (at - 1) x)).0 ≡ asked) × ((key (get_or xs (at - 1) x)).1 < top)) → here.0 < at
          → ((key (get_or xs (at - 1) x)).0 ≡ asked) × ((key x).1 ≤ (key (get_or xs (at - 1) x)).1)
      by_place (inr reached) back inside =
          let same : get_or xs (at - 1) x ≡ x = ap (λ k. get_or xs k x) (let one : at - 1 ≡ here.0 = omega arith in one) ∙ here.2 in
          (ap (λ y. (key y).0) same ∙ is, (let number : (key (get_or xs (at - 1) x)).1 ≡ (key x).1 = ap (λ y. (key y).1) same in omega (arith, number)))
      by_place (inl below) back inside =
          let lower : both (key x) (key (get_or xs (at - 1) x)) ≡ Less =
          ap (λ y. both (key y) (key (get_or xs (at - 1) x))) (sym here.2) ∙ rising here.0 (at - 1) x below (omega (arith, split.within)) in
          by_parts (before_by (key x) (key (get_or xs (at - 1) x)) lower) back
        where
          by_parts : (R (key x).0 (key (get_or xs (at - 1) x)).0 ≡ Less) ⊎ (((key x).0 ≡ (key (get_or xs (at - 1) x)).0) × ((key x).1 < (key (get_or xs (at - 1) x)).1))
              → (R (key (get_or xs (at - 1) x)).0 asked ≡ Less) ⊎ (((key (get_or xs (at - 1) x)).0 ≡ asked) × ((key (get_or xs (at - 1) x)).1 < top))
              → ((key (get_or xs (at - 1) x)).0 ≡ asked) × ((key x).1 ≤ (key (get_or xs (at - 1) x)).1)
          by_parts (inr (same, number)) back = (sym same ∙ is, omega (arith, number))
          by_parts (inl less) (inl more) = absurd (never_round asked (key (get_or xs (at - 1) x)).0 (ap (λ a. R a (key (get_or xs (at - 1) x)).0) (sym is) ∙ less) more)
          by_parts (inl less) (inr (same, number)) =
              absurd (never_less asked (ap (λ a. R a asked) (sym is) ∙ ap (λ a. R (key x).0 a) (sym same) ∙ less))

  -- what is not before a first part with a number, and has it, has no lower number
  pub from_level : (p : I × ℕ) (a : I) (n : ℕ) → is_lt (both p (a, n)) ≡ false → p.0 ≡ a → n ≤ p.1
  from_level p a n h same = elim (cases_lt p.1 n) [
    | inl below ↦ absurd (less_passes _ (level_less p a n same below) h)
    | inr above ↦ above
  ]

  -- two searches for a first part, with a number and with another above all, end round those that have it from the number on
  pub part_among : (xs : List X) (asked : I) (low top from to : ℕ) → low ≤ top → IsSplitAt both key xs (asked, low) from → IsSplitAt both key xs (asked, top) to
      → IsPartWith both key xs asked low top from to
  part_among xs asked low top from to upto first second = record {
    start = starts xs first second;
    end = second.within;
    inside = λ k d above below.
        let later : is_lt (both (key (get_or xs k d)) (asked, low)) ≡ false = first.rest k d above (omega (arith, second.within)) in
        elim (before_by (key (get_or xs k d)) (asked, top) (second.lower k d below)) [
          | inl less ↦ absurd (less_passes _ (ap (λ r. ordering_then r (nat_cmp (key (get_or xs k d)).1 low)) less) later)
          | inr (same, number) ↦ (same, from_level (key (get_or xs k d)) asked low later same)
        ];
    whole = λ k d within is high under. (
      elim (cases_lt k from) [
        | inl below ↦
            elim (before_by (key (get_or xs k d)) (asked, low) (first.lower k d below)) [
              | inl less ↦ absurd (never_less asked (ap (λ a. R a asked) (sym is) ∙ less))
              | inr (same, number) ↦ absurd (omega (arith, number))
            ]
        | inr reached ↦ reached
      ],
      elim (cases_lt k to) [
        | inl below ↦ below
        | inr reached ↦ absurd (less_passes _ (level_less (key (get_or xs k d)) asked top is under) (second.rest k d reached within))
      ],
    );
  }
    where
      starts : (xs : List X) → IsSplitAt both key xs (asked, low) from → IsSplitAt both key xs (asked, top) to → from ≤ to
      starts [] first second = let none = first.within in omega (arith, none)
      starts (x ∷ xs) first second = elim (cases_lt to from) [
        | inl below ↦
            (let inside : to < length (x ∷ xs) = omega (arith, first.within) in
            let p : I × ℕ = key (get_or (x ∷ xs) to x) in
            let later : is_lt (both p (asked, top)) ≡ false = second.rest to x (omega arith) inside in
            absurd (elim (before_by p (asked, low) (first.lower to x below)) [
              | inl less ↦ less_passes _ (ap (λ r. ordering_then r (nat_cmp p.1 top)) less) later
              | inr (same, number) ↦ less_passes _ (level_less p asked top same (omega (arith, number))) later
            ]))
        | inr reached ↦ reached
      ]

  -- what stands there
  pub part_has : (xs : List X) (asked : I) (low top from to : ℕ) (x : X) → IsPartWith both key xs asked low top from to → Contains (part from to xs) x
      → Contains xs x × ((key x).0 ≡ asked) × (low ≤ (key x).1)
  part_has xs asked low top from to x between here =
      let place = part_of_list xs from to x between.start between.end here in
      let has = between.inside place.0 x place.1 place.2 in
      let is : key (get_or xs place.0 x) ≡ key x = ap key place.3 in (
        (place.0, omega (arith, place.2, between.end), place.3),
        ap (λ (p : I × ℕ). p.0) (sym is) ∙ has.0,
        (let number : (key (get_or xs place.0 x)).1 ≡ (key x).1 = ap (λ (p : I × ℕ). p.1) is in omega (arith, has.1)),
      )

  pub has_part : (xs : List X) (asked : I) (low top from to : ℕ) (x : X) → IsPartWith both key xs asked low top from to → Contains xs x → (key x).0 ≡ asked → low ≤ (key x).1
      → (key x).1 < top → Contains (part from to xs) x
  has_part xs asked low top from to x between here same above under =
      let is : key x ≡ key (get_or xs here.0 x) = ap key (sym here.2) in
      let number : (key x).1 ≡ (key (get_or xs here.0 x)).1 = ap (λ (p : I × ℕ). p.1) is in
      let place = between.whole here.0 x here.1 (ap (λ (p : I × ℕ). p.0) (sym is) ∙ same) (omega arith) (omega arith) in
      in_part xs from to here.0 x place.0 place.1 between.end here.2

  -- and the numbers rise along it
  pub part_rises : (xs : List X) (asked : I) (low top from to : ℕ) → IsRising both key xs → IsPartWith both key xs asked low top from to
      → AllPairs (λ one other. (key one).1 < (key other).1) (part from to xs)
  part_rises xs asked low top from to rising between i j d before within =
      let inside : j < to - from = omega (arith, part_long xs from to between.start between.end) in
      let first : key (get_or (part from to xs) i d) ≡ key (get_or xs (from + i) d) = ap key (part_at xs from to i d (omega arith)) in
      let second : key (get_or (part from to xs) j d) ≡ key (get_or xs (from + j) d) = ap key (part_at xs from to j d inside) in
      let one = between.inside (from + i) d (omega arith) (omega arith) in
      let other = between.inside (from + j) d (omega arith) (omega arith) in
      let a : (key (get_or (part from to xs) i d)).1 ≡ (key (get_or xs (from + i) d)).1 = ap (λ (p : I × ℕ). p.1) first in
      let b : (key (get_or (part from to xs) j d)).1 ≡ (key (get_or xs (from + j) d)).1 = ap (λ (p : I × ℕ). p.1) second in
      elim (before_by (key (get_or xs (from + i) d)) (key (get_or xs (from + j) d)) (rising (from + i) (from + j) d (omega arith) (omega (arith, between.end)))) [
        | inl less ↦ absurd (never_less asked (ap (λ c. R c asked) (sym one.0) ∙ ap (λ c. R (key (get_or xs (from + i) d)).0 c) (sym other.0) ∙ less))
        | inr (same, number) ↦ omega (arith, a, b, number)
      ]
