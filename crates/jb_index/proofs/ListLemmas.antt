-- Filters of lists.
use Rattle.std.proofs.Common.{◌≡◌, ℕ, zero, suc, ◌+◌, ◌-◌, ◌<◌, ◌≤◌, Bool, true, false, ◌&&◌, cond, List, [], ◌∷◌, ◌++◌, Some, filter, find, map, length, take, drop, get_or, length-append, length-drop, append-nil, refl, sym, ◌∙◌, ap, arith}
use Rattle.std.specs.Option.{option_map}
use Rattle.std.proofs.lemmas.List.{get_or-drop, take-append-le, take_all}
use Rattle.std.proofs.lemmas.List.Elements.{filter_agree, filter_more}

-- a filter of a filter keeps what passes both
pub filter_filter : {X : Type 0} (p q : X → Bool) (xs : List X) → filter p (filter q xs) ≡ filter (λ x. q x && p x) xs
filter_filter p q [] = refl
filter_filter p q (x ∷ xs) = by (q x) (p x) refl refl (filter_filter p q xs)
  where
    by : (a b : Bool) → q x ≡ a → p x ≡ b → filter p (filter q xs) ≡ filter (λ x. q x && p x) xs
        → filter p (cond a (x ∷ filter q xs) (filter q xs)) ≡ cond (a && b) (x ∷ filter (λ x. q x && p x) xs) (filter (λ x. q x && p x) xs)
    by true true qx px rest = rw px (ap (λ l. x ∷ l) rest)
    by true false qx px rest = rw px rest
    by false b qx px rest = rest

-- two filters may change places
pub filter_swap : {X : Type 0} (p q : X → Bool) (xs : List X) → filter p (filter q xs) ≡ filter q (filter p xs)
filter_swap {X} p q xs = filter_filter p q xs ∙ filter_agree (λ x. q x && p x) (λ x. p x && q x) (λ x. both (q x) (p x)) xs ∙ sym (filter_filter q p xs)
  where
    both : (a b : Bool) → (a && b) ≡ (b && a)
    both true true = refl
    both true false = refl
    both false true = refl
    both false false = refl

-- what always passes keeps all
pub filter_all : {X : Type 0} (p : X → Bool) (xs : List X) → ((k : ℕ) (d : X) → k < length xs → p (get_or xs k d) ≡ true) → filter p xs ≡ xs
filter_all p [] passes = refl
filter_all p (x ∷ xs) passes =
    let here : p x ≡ true = passes 0 x (omega arith) in
    rw here (ap (λ l. x ∷ l) (filter_all p xs (λ k d within. passes (suc k) d (omega arith))))

-- of a list in two parts, of which the first fails and the second passes, the second is kept
pub filter_cut : {X : Type 0} (p : X → Bool) (xs : List X) (at : ℕ) → at ≤ length xs → ((k : ℕ) (d : X) → k < at → p (get_or xs k d) ≡ false)
    → ((k : ℕ) (d : X) → at ≤ k → k < length xs → p (get_or xs k d) ≡ true) → filter p xs ≡ drop at xs
filter_cut p xs zero within fails passes = filter_all p xs (λ k d below. passes k d (omega arith) below)
filter_cut p [] (suc at) within fails passes = absurd (omega arith)
filter_cut p (x ∷ xs) (suc at) within fails passes =
    let here : p x ≡ false = fails 0 x (omega arith) in
    rw here (filter_cut p xs at (omega arith) (λ k d below. fails (suc k) d (omega arith)) (λ k d from below. passes (suc k) d (omega arith) (omega arith)))

-- a filter of what was made of each
pub filter_map : {X Y : Type 0} (p : Y → Bool) (f : X → Y) (xs : List X) → filter p (map f xs) ≡ map f (filter (λ x. p (f x)) xs)
filter_map p f [] = refl
filter_map p f (x ∷ xs) = by (p (f x)) (filter_map p f xs)
  where
    by : (b : Bool) → filter p (map f xs) ≡ map f (filter (λ x. p (f x)) xs)
        → cond b (f x ∷ filter p (map f xs)) (filter p (map f xs)) ≡ map f (cond b (x ∷ filter (λ x. p (f x)) xs) (filter (λ x. p (f x)) xs))
    by true rest = ap (λ l. f x ∷ l) rest
    by false rest = rest

-- the first of what was made of each
pub take_map : {X Y : Type 0} (n : ℕ) (f : X → Y) (xs : List X) → take n (map f xs) ≡ map f (take n xs)
take_map zero f xs = refl
take_map (suc n) f [] = refl
take_map (suc n) f (x ∷ xs) = ap (λ l. f x ∷ l) (take_map n f xs)

-- what is found of what was made of each
pub find_map : {X Y : Type 0} (p : Y → Bool) (f : X → Y) (xs : List X) → find p (map f xs) ≡ option_map f (find (λ x. p (f x)) xs)
find_map p f [] = refl
find_map p f (x ∷ xs) = by (p (f x)) (find_map p f xs)
  where
    by : (b : Bool) → find p (map f xs) ≡ option_map f (find (λ x. p (f x)) xs)
        → cond b (Some (f x)) (find p (map f xs)) ≡ option_map f (cond b (Some x) (find (λ x. p (f x)) xs))
    by true rest = refl
    by false rest = rest

-- the first of a list that begins with as many are those
pub take_front : {X : Type 0} (n : ℕ) (front rest : List X) → length front ≡ n → take n (front ++ rest) ≡ front
take_front n front rest long =
    take-append-le n front rest (omega arith) ∙ take_all n front (omega arith)

-- a filter of a list is that of its front and of what is behind
pub filter_parts : {X : Type 0} (p : X → Bool) (i : ℕ) (xs : List X) → filter p xs ≡ filter p (take i xs) ++ filter p (drop i xs)
filter_parts p zero xs = refl
filter_parts p (suc i) [] = refl
filter_parts p (suc i) (x ∷ xs) = by (p x) (filter_parts p i xs)
  where
    by : (b : Bool) → filter p xs ≡ filter p (take i xs) ++ filter p (drop i xs)
        → cond b (x ∷ filter p xs) (filter p xs) ≡ cond b (x ∷ filter p (take i xs)) (filter p (take i xs)) ++ filter p (drop i xs)
    by true rest = ap (λ l. x ∷ l) rest
    by false rest = rest

-- a filter of one element more, from a place on
picked_more : {X : Type 0} (p : X → Bool) (xs : List X) (start place : ℕ) (x : X) → start ≤ place → place < length xs → x ≡ get_or xs place x
    → filter p (take (place + 1 - start) (drop start xs)) ≡ filter p (take (place - start) (drop start xs)) ++ cond (p x) (x ∷ []) []
picked_more p xs start place x from within read =
    let next : place + 1 - start ≡ place - start + 1 = omega arith in
    let there : start + (place - start) ≡ place = omega arith in
    let at : get_or (drop start xs) (place - start) x ≡ x = get_or-drop start xs (place - start) x ∙ ap (λ k. get_or xs k x) there ∙ sym read in
    ap (λ n. filter p (take n (drop start xs))) next
    ∙ filter_more p (drop start xs) (place - start) x (omega (arith, length-drop start xs))
    ∙ ap (λ y. filter p (take (place - start) (drop start xs)) ++ cond (p y) (y ∷ []) []) at

-- what passes goes behind the others
pub picked_one : {X : Type 0} (p : X → Bool) (xs : List X) (start place : ℕ) (x : X) (old new : List X) → start ≤ place → place < length xs → x ≡ get_or xs place x → p x ≡ true
    → new ≡ old ++ x ∷ [] → old ≡ filter p (take (place - start) (drop start xs)) → new ≡ filter p (take (place + 1 - start) (drop start xs))
picked_one p xs start place x old new from within read passes pushed before =
    pushed ∙ ap (λ l. l ++ x ∷ []) before ∙ ap (λ b. filter p (take (place - start) (drop start xs)) ++ cond b (x ∷ []) []) (sym passes)
    ∙ sym (picked_more p xs start place x from within read)

-- what fails is left out
pub picked_none : {X : Type 0} (p : X → Bool) (xs : List X) (start place : ℕ) (x : X) (old new : List X) → start ≤ place → place < length xs → x ≡ get_or xs place x → p x ≡ false
    → new ≡ old → old ≡ filter p (take (place - start) (drop start xs)) → new ≡ filter p (take (place + 1 - start) (drop start xs))
picked_none p xs start place x old new from within read fails kept before =
    kept ∙ before ∙ sym (append-nil (filter p (take (place - start) (drop start xs))))
    ∙ ap (λ b. filter p (take (place - start) (drop start xs)) ++ cond b (x ∷ []) []) (sym fails)
    ∙ sym (picked_more p xs start place x from within read)

-- the count of what passes, with one element more, from a place on
pub counted_more : {X : Type 0} (p : X → Bool) (xs : List X) (start place : ℕ) (x : X) → start ≤ place → place < length xs → x ≡ get_or xs place x
    → length (filter p (take (place + 1 - start) (drop start xs))) ≡ length (filter p (take (place - start) (drop start xs))) + cond (p x) 1 0
counted_more p xs start place x from within read =
    ap length (picked_more p xs start place x from within read)
    ∙ length-append (filter p (take (place - start) (drop start xs))) (cond (p x) (x ∷ []) [])
    ∙ ap (λ n. length (filter p (take (place - start) (drop start xs))) + n) (by (p x))
  where
    by : (b : Bool) → length (cond b (x ∷ []) []) ≡ cond b 1 0
    by true = refl
    by false = refl

-- as many as are asked for are the first
pub picked_enough : {X : Type 0} (p : X → Bool) (xs : List X) (i most : ℕ) (found : List X) → length found ≡ most → found ≡ filter p (take i xs) → found ≡ take most (filter p xs)
picked_enough p xs i most found long is =
    sym (take_front most found (filter p (drop i xs)) long)
    ∙ ap (λ l. take most (l ++ filter p (drop i xs))) is
    ∙ ap (take most) (sym (filter_parts p i xs))

-- a filter with a condition on the numbers, of those from a place on
pub filter_behind : {X : Type 0} (above kind shown : X → Bool) (xs : List X) (at : ℕ) → filter above xs ≡ drop at xs
    → filter above (filter kind (filter shown xs)) ≡ filter (λ x. shown x && kind x) (drop at xs)
filter_behind above kind shown xs at cut =
    filter_swap above kind (filter shown xs) ∙ ap (filter kind) (filter_swap above shown xs) ∙ ap (λ l. filter kind (filter shown l)) cut
    ∙ filter_filter kind shown (drop at xs)

-- no more pass than there are
pub few_filtered : {X : Type 0} (p : X → Bool) (i : ℕ) (xs : List X) → length (filter p (take i xs)) ≤ i
few_filtered p zero xs = omega arith
few_filtered p (suc i) [] = omega arith
few_filtered p (suc i) (x ∷ xs) = by (p x) (few_filtered p i xs)
  where
    by : (b : Bool) → length (filter p (take i xs)) ≤ i → length (cond b (x ∷ filter p (take i xs)) (filter p (take i xs))) ≤ suc i
    by true h = omega arith
    by false h = omega arith

-- one more is no more than are asked for, where there were fewer
pub few_more : {X : Type 0} (old new : List X) (x : X) (most : ℕ) → new ≡ old ++ x ∷ [] → length old ≤ most → (length old ≡ most → ⊥) → length new ≤ most
few_more old new x most is few other = let long : length new ≡ length old + 1 = ap length is ∙ length-append old (x ∷ []) in omega arith

-- what passes goes behind the others, from the first on
pub filtered_one : {X : Type 0} (p : X → Bool) (xs : List X) (i : ℕ) (x : X) (old new : List X) → i < length xs → x ≡ get_or xs i x → p x ≡ true
    → new ≡ old ++ x ∷ [] → old ≡ filter p (take i xs) → new ≡ filter p (take (i + 1) xs)
filtered_one p xs i x old new within read passes pushed before =
    pushed ∙ ap (λ l. l ++ x ∷ []) before ∙ ap (λ b. filter p (take i xs) ++ cond b (x ∷ []) []) (sym passes)
    ∙ ap (λ y. filter p (take i xs) ++ cond (p y) (y ∷ []) []) read ∙ sym (filter_more p xs i x within)

-- what fails is left out, from the first on
pub filtered_none : {X : Type 0} (p : X → Bool) (xs : List X) (i : ℕ) (x : X) (old new : List X) → i < length xs → x ≡ get_or xs i x → p x ≡ false
    → new ≡ old → old ≡ filter p (take i xs) → new ≡ filter p (take (i + 1) xs)
filtered_none p xs i x old new within read fails kept before =
    kept ∙ before ∙ sym (append-nil (filter p (take i xs))) ∙ ap (λ b. filter p (take i xs) ++ cond b (x ∷ []) []) (sym fails)
    ∙ ap (λ y. filter p (take i xs) ++ cond (p y) (y ∷ []) []) read ∙ sym (filter_more p xs i x within)

-- a filter that keeps all
pub filter_true : {X : Type 0} (xs : List X) → filter (λ x. true) xs ≡ xs
filter_true xs = filter_all (λ x. true) xs (λ k d within. refl)
