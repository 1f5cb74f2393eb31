-- Parts of lists, what stands in a filtered and in a mapped list, and lists that rise by a number.
use Rattle.std.proofs.Common.{◌≡◌, ◌<◌, ◌≤◌, ◌+◌, ◌-◌, ◌⊎◌, inl, inr, ℕ, suc, Bool, true, false, cond, List, [], ◌∷◌, ◌++◌, length, get_or, map, take, drop, refl, sym, ◌∙◌, ap, arith}
use Rattle.std.specs.Prelude.{AllPairs, Contains, filter, ◌↔◌}
use Rattle.std.proofs.lemmas.Bool.{cases_lt}
use Rattle.std.proofs.lemmas.List.{get_or-drop, get_or-map, get_or-take, get_or_append_left, get_or-append_right, get_or_default, length-append, length-drop, length-map, length-take-le, map_more}
use Rattle.std.proofs.lemmas.List.Elements.{All-contains, All-contains_itself, All-filter, Contains-get_or, filter_passes}
use Rattle.jb_link.proofs.MemberLemmas.{HasNoTwice, cons_cases, cons_first, cons_rest}
use Rattle.jb_link.specs.Part.{part}

module _ {X : Type 0} where
  -- the length of a part, and what stands in it
  pub part_long : (xs : List X) (from to : ℕ) → from ≤ to → to ≤ length xs → length (part from to xs) ≡ to - from
  part_long xs from to start end = length-take-le (to - from) (drop from xs) (omega (arith, length-drop from xs))

  pub part_at : (xs : List X) (from to k : ℕ) (d : X) → k < to - from → get_or (part from to xs) k d ≡ get_or xs (from + k) d
  part_at xs from to k d within = get_or-take (to - from) (drop from xs) k d within ∙ get_or-drop from xs k d

  pub part_of_list : (xs : List X) (from to : ℕ) (x : X) → from ≤ to → to ≤ length xs → Contains (part from to xs) x
      → (k : ℕ) × (from ≤ k) × (k < to) × (get_or xs k x ≡ x)
  part_of_list xs from to x start end here =
      let within : here.0 < to - from = omega (arith, here.1, part_long xs from to start end) in
      (from + here.0, omega arith, omega arith, sym (part_at xs from to here.0 x within) ∙ here.2)

  pub in_part : (xs : List X) (from to k : ℕ) (x : X) → from ≤ k → k < to → to ≤ length xs → get_or xs k x ≡ x → Contains (part from to xs) x
  in_part xs from to k x start below end is =
      let place : from + (k - from) ≡ k = omega arith in (
        k - from,
        omega (arith, part_long xs from to (omega arith) end),
        part_at xs from to (k - from) x (omega arith) ∙ ap (λ n. get_or xs n x) place ∙ is,
      )

  -- what passes a test stands in the filtered list
  pub filtered : (p : X → Bool) (xs : List X) (x : X) → Contains (filter p xs) x → Contains xs x × (p x ≡ true)
  filtered p xs x here = (
    All-contains (Contains xs) (filter p xs) x (All-filter p (Contains xs) xs (All-contains_itself xs)) here,
    All-contains (λ y. p y ≡ true) (filter p xs) x (filter_passes p xs) here,
  )

  pub in_filtered : (p : X → Bool) (xs : List X) (x : X) → Contains xs x → p x ≡ true → Contains (filter p xs) x
  in_filtered p [] x here passes = absurd (omega (arith, here.1))
  in_filtered p (y ∷ xs) x here passes = elim (cons_cases y xs x here) [
    | inl is ↦ first (p y) is (ap p is ∙ passes)
    | inr rest ↦ later (p y) (in_filtered p xs x rest passes)
  ]
    where
      first : (b : Bool) → y ≡ x → b ≡ true → Contains (cond b (y ∷ filter p xs) (filter p xs)) x
      first true is e = cons_first y (filter p xs) x is
      first false is e = cc

      later : (b : Bool) → Contains (filter p xs) x → Contains (cond b (y ∷ filter p xs) (filter p xs)) x
      later true rest = cons_rest y (filter p xs) x rest
      later false rest = rest

  -- a list in which numbers rise is told by what stands in it
  pub rising_same : (f : X → ℕ) (xs ys : List X) → AllPairs (λ one other. f one < f other) xs → AllPairs (λ one other. f one < f other) ys
      → ((x : X) → Contains xs x ↔ Contains ys x) → xs ≡ ys
  rising_same f [] [] rises also same = refl
  rising_same f [] (y ∷ ys) rises also same = absurd (let none = (same y).1 (cons_first y ys y refl) in omega (arith, none.1))
  rising_same f (x ∷ xs) [] rises also same = absurd (let none = (same x).0 (cons_first x xs x refl) in omega (arith, none.1))
  rising_same f (x ∷ xs) (y ∷ ys) rises also same =
      ap (λ z. z ∷ xs) first ∙ ap (λ zs. y ∷ zs) (rising_same f xs ys (tail x xs rises) (tail y ys also) (λ z. (forth z, back z)))
    where
      tail : (z : X) (zs : List X) → AllPairs (λ one other. f one < f other) (z ∷ zs) → AllPairs (λ one other. f one < f other) zs
      tail z zs h i j d before within = h (suc i) (suc j) d (omega arith) (omega arith)

      -- what stands behind the first has a greater number
      above : (z : X) (zs : List X) → AllPairs (λ one other. f one < f other) (z ∷ zs) → (w : X) → Contains zs w → f z < f w
      above z zs h w here =
          let less : f z < f (get_or zs here.0 w) = h 0 (suc here.0) w (omega arith) (omega (arith, here.1)) in
          let is : f (get_or zs here.0 w) ≡ f w = ap f here.2 in
          omega arith

      first : x ≡ y
      first = elim (cons_cases y ys x ((same x).0 (cons_first x xs x refl))) [
        | inl is ↦ sym is
        | inr later ↦
            elim (cons_cases x xs y ((same y).1 (cons_first y ys y refl))) [
              | inl is ↦ is
              | inr behind ↦ absurd (let one = above y ys also x later in let other = above x xs rises y behind in omega (arith, one, other))
            ]
      ]

      forth : (z : X) → Contains xs z → Contains ys z
      forth z here = elim (cons_cases y ys z ((same z).0 (cons_rest x xs z here))) [
        | inl is ↦ absurd (let up = above x xs rises z here in let level = ap f (first ∙ is) in omega (arith, up, level))
        | inr there ↦ there
      ]

      back : (z : X) → Contains ys z → Contains xs z
      back z here = elim (cons_cases x xs z ((same z).1 (cons_rest y ys z here))) [
        | inl is ↦ absurd (let up = above y ys also z here in let level = ap f (sym first ∙ is) in omega (arith, up, level))
        | inr there ↦ there
      ]

  -- two lists without one twice, and with none in common, are such a list together
  pub joined_apart : (xs ys : List X) → HasNoTwice xs → HasNoTwice ys → ((x : X) → Contains xs x → Contains ys x → ⊥) → HasNoTwice (xs ++ ys)
  joined_apart xs ys one other common = record { apart = λ i j d in_i in_j differ same. by i j d in_i in_j differ same (cases_lt i (length xs)) (cases_lt j (length xs)) }
    where
      long : length (xs ++ ys) ≡ length xs + length ys
      long = length-append xs ys

      front : (i : ℕ) (d : X) → i < length xs → get_or (xs ++ ys) i d ≡ get_or xs i d
      front i d h = get_or_append_left xs ys d i h

      rest : (i : ℕ) (d : X) → length xs ≤ i → get_or (xs ++ ys) i d ≡ get_or ys (i - length xs) d
      rest i d h = get_or-append_right xs ys (length xs) i d refl h

      both : (i j : ℕ) (d : X) → i < length xs → j < length ys → get_or xs i d ≡ get_or ys j d → ⊥
      both i j d in_i in_j same =
          common (get_or xs i d) (Contains-get_or xs i d in_i) (j, in_j, get_or_default ys j (get_or xs i d) d in_j ∙ sym same)

      by : (i j : ℕ) (d : X) → i < length (xs ++ ys) → j < length (xs ++ ys) → (i ≡ j → ⊥) → get_or (xs ++ ys) i d ≡ get_or (xs ++ ys) j d
          → (i < length xs) ⊎ (length xs ≤ i) → (j < length xs) ⊎ (length xs ≤ j) → ⊥
      by i j d in_i in_j differ same (inl low_i) (inl low_j) = one.apart i j d low_i low_j differ (sym (front i d low_i) ∙ same ∙ front j d low_j)
      by i j d in_i in_j differ same (inl low_i) (inr high_j) = both i (j - length xs) d low_i (omega (arith, long)) (sym (front i d low_i) ∙ same ∙ rest j d high_j)
      by i j d in_i in_j differ same (inr high_i) (inl low_j) =
          both j (i - length xs) d low_j (omega (arith, long)) (sym (front j d low_j) ∙ sym same ∙ rest i d high_i)
      by i j d in_i in_j differ same (inr high_i) (inr high_j) =
          other.apart (i - length xs) (j - length xs) d (omega (arith, long)) (omega (arith, long)) (λ e. differ (omega arith)) (sym (rest i d high_i) ∙ same ∙ rest j d high_j)

module _ {X Y : Type 0} (f : X → Y) where
  -- one more of a part
  pub part_more : (xs : List X) (from at : ℕ) (x : X) → from ≤ at → at < length xs → x ≡ get_or xs at x → map f (part from (at + 1) xs) ≡ map f (part from at xs) ++ f x ∷ []
  part_more xs from at x start within is =
      let next : at + 1 - from ≡ at - from + 1 = omega arith in
      let place : from + (at - from) ≡ at = omega arith in
      ap (λ k. map f (take k (drop from xs))) next
      ∙ map_more f (drop from xs) (at - from) x (omega (arith, length-drop from xs))
      ∙ ap (λ y. map f (part from at xs) ++ f y ∷ []) (get_or-drop from xs (at - from) x ∙ ap (λ k. get_or xs k x) place ∙ sym is)

  pub part_none : (xs : List X) (from : ℕ) → map f (part from from xs) ≡ []
  part_none xs from = let none : from - from ≡ 0 = omega arith in ap (λ k. map f (take k (drop from xs))) none

  -- what stands in a mapped list
  pub mapped : (xs : List X) (y : Y) → Contains (map f xs) y → (x : X) × (Contains xs x) × (f x ≡ y)
  mapped [] y here = absurd (omega (arith, here.1))
  mapped (x ∷ xs) y here = elim (cons_cases (f x) (map f xs) y here) [
    | inl is ↦ (x, cons_first x xs x refl, is)
    | inr rest ↦ (let was = mapped xs y rest in (was.0, cons_rest x xs was.0 was.1, was.2))
  ]

  pub in_mapped : (xs : List X) (x : X) (y : Y) → Contains xs x → f x ≡ y → Contains (map f xs) y
  in_mapped xs x y here is =
      (here.0, omega (arith, here.1, length-map xs f), get_or-map f xs here.0 x y here.1 ∙ ap f here.2 ∙ is)

  -- numbers rise along it where they do so before
  pub mapped_rises : (n : Y → ℕ) (xs : List X) → AllPairs (λ one other. n (f one) < n (f other)) xs → AllPairs (λ one other. n one < n other) (map f xs)
  mapped_rises n [] rises = λ i j d before within. absurd (omega arith)
  mapped_rises n (x ∷ xs) rises = λ i j d before within.
      let inside : j < length (x ∷ xs) = omega (arith, within, length-map xs f) in
      let first : n (get_or (map f (x ∷ xs)) i d) ≡ n (f (get_or (x ∷ xs) i x)) = ap n (get_or-map f (x ∷ xs) i x d (omega arith)) in
      let second : n (get_or (map f (x ∷ xs)) j d) ≡ n (f (get_or (x ∷ xs) j x)) = ap n (get_or-map f (x ∷ xs) j x d inside) in
      let less : n (f (get_or (x ∷ xs) i x)) < n (f (get_or (x ∷ xs) j x)) = rises i j x before inside in
      omega arith
