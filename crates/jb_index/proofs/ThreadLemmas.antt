-- Roots of threads among summaries.
use Rattle.std.proofs.Common.{◌≡◌, ◌≢◌, ◌⊎◌, inl, inr, ℕ, zero, suc, ◌+◌, ◌-◌, ◌<◌, ◌≤◌, nat_lt, Bool, true, false, ◌==◌, cond, List, [], ◌∷◌, Option, Some, None, find, map, length, take, get_or, ◌++◌, ◌&&◌, filter, length-take, refl, sym, ◌∙◌, ap, arith, eq-eqb, ne_eqb, eqb-true, lt-ltb, le-ltb}
use Rattle.std.specs.Prelude.{All, IfSome, is_some}
use Rattle.std.proofs.lemmas.Bool.{cases_lt, cond_both, ltb-true}
use Rattle.std.proofs.lemmas.List.{get_or_default, get_or-map, get_or-take, length-map, map_more}
use Rattle.jb_state.proofs.ThreadLaws.{find_passes}
use Rattle.jb_state.specs.declared.summary.Summary.{Summary}
use Rattle.jb_index.specs.Cut.{NumbersRise}
use Rattle.jb_index.specs.Thread.{lower_parent, parent_in, root_in, thread_among, up_within}
use Rattle.jb_state.specs.Short.{short_of}
use Rattle.jb_index.proofs.ListLemmas.{filter_filter}
use Rattle.jb_index.proofs.PlaceLemmas.{find_at_place, find_none}

-- a parent is lower, or there is none
lower_than : (number : ℕ) (found : Option Summary) → IfSome found (λ one. (one.number == number) ≡ true) → lower_parent found ≤ number - 1
lower_than number None is = omega arith
lower_than number (Some one) is =
    let same : one.number ≡ number = eqb-true one.number number is in
    cond_both (nat_lt one.parent one.number) one.parent 0 (λ p. p ≤ number - 1)
    (λ less. let below : one.parent < one.number = ltb-true _ _ less in omega arith) (λ other. omega arith)

-- the parent that a list has for a number is lower, or there is none
pub parent_in_lower : (xs : List Summary) (number : ℕ) → parent_in xs number ≤ number - 1
parent_in_lower xs number = lower_than number (find (λ one. one.number == number) xs) (find_passes (λ (one : Summary). one.number == number) xs)

-- enough steps up are as good as more
enough_steps : (xs : List Summary) (s t n : ℕ) → n ≤ s → n ≤ t → up_within s xs n ≡ up_within t xs n
enough_steps xs zero zero n a b = refl
enough_steps xs zero (suc t) n a b =
    let lower : parent_in xs n ≤ n - 1 = parent_in_lower xs n in
    let none : (parent_in xs n == 0) ≡ true = eq-eqb (parent_in xs n) 0 (omega arith) in
    rw none refl
enough_steps xs (suc s) zero n a b =
    let lower : parent_in xs n ≤ n - 1 = parent_in_lower xs n in
    let none : (parent_in xs n == 0) ≡ true = eq-eqb (parent_in xs n) 0 (omega arith) in
    rw none refl
enough_steps xs (suc s) (suc t) n a b =
    let lower : parent_in xs n ≤ n - 1 = parent_in_lower xs n in
    ap (cond (parent_in xs n == 0) n) (enough_steps xs s t (parent_in xs n) (omega arith) (omega arith))

-- the root is the message itself, where it has no parent, and else that of its parent
pub root_step : (xs : List Summary) (n : ℕ) → root_in xs n ≡ cond (parent_in xs n == 0) n (root_in xs (parent_in xs n))
root_step xs zero =
    let lower : parent_in xs 0 ≤ 0 - 1 = parent_in_lower xs 0 in
    let none : (parent_in xs 0 == 0) ≡ true = eq-eqb (parent_in xs 0) 0 (omega arith) in
    rw none refl
root_step xs (suc m) =
    let lower : parent_in xs (suc m) ≤ suc m - 1 = parent_in_lower xs (suc m) in
    ap (cond (parent_in xs (suc m) == 0) (suc m)) (enough_steps xs m (parent_in xs (suc m)) (parent_in xs (suc m)) (omega arith) (omega arith))

-- without a parent it is the message itself
root_alone : (xs : List Summary) (n : ℕ) → parent_in xs n ≡ 0 → n ≡ root_in xs n
root_alone xs n none = sym (root_step xs n ∙ ap (λ b. cond b n (root_in xs (parent_in xs n))) (eq-eqb (parent_in xs n) 0 none))

-- with one it is that of the parent
root_above : (xs : List Summary) (n parent : ℕ) → parent_in xs n ≡ parent → parent ≢ 0 → root_in xs parent ≡ root_in xs n
root_above xs n parent is some =
    sym (root_step xs n ∙ ap (λ b. cond b n (root_in xs (parent_in xs n))) (ne_eqb (parent_in xs n) 0 (λ e. some (sym is ∙ e))) ∙ ap (root_in xs) is)

-- the parent of the one at a place
parent_here : (xs : List Summary) (place : ℕ) (one : Summary) → NumbersRise xs → place < length xs → one ≡ get_or xs place one → parent_in xs one.number ≡ cond (nat_lt one.parent one.number) one.parent 0
parent_here xs place one rises within read = ap lower_parent (find_at_place xs place one rises within read)

-- the one at a place, by whatever default
number_here : (xs : List Summary) (place : ℕ) (one d : Summary) → place < length xs → one ≡ get_or xs place one → one.number ≡ (get_or xs place d).number
number_here xs place one d within read = ap (λ (x : Summary). x.number) (read ∙ get_or_default xs place one d within)

-- one without a parent begins its thread
pub root_without : (xs : List Summary) (place : ℕ) (one : Summary) → NumbersRise xs → place < length xs → one ≡ get_or xs place one → (one.parent ≡ 0) ⊎ (one.number ≤ one.parent)
    → (d : Summary) → one.number ≡ root_in xs (get_or xs place d).number
root_without xs place one rises within read none d =
    root_alone xs one.number (parent_here xs place one rises within read ∙ no_parent none) ∙ ap (root_in xs) (number_here xs place one d within read)
  where
    no_parent : (one.parent ≡ 0) ⊎ (one.number ≤ one.parent) → cond (nat_lt one.parent one.number) one.parent 0 ≡ 0
    no_parent (inl zero_parent) = cond_both (nat_lt one.parent one.number) one.parent 0 (λ p. p ≡ 0) (λ less. zero_parent) (λ other. refl)
    no_parent (inr high) = rw (le-ltb one.parent one.number high) refl

-- one with a parent is in the thread of that
pub root_with : (xs : List Summary) (place root : ℕ) (one : Summary) → NumbersRise xs → place < length xs → one ≡ get_or xs place one → one.parent ≢ 0 → one.parent < one.number
    → root ≡ root_in xs one.parent → (d : Summary) → root ≡ root_in xs (get_or xs place d).number
root_with xs place root one rises within read some less is d =
    is ∙ root_above xs one.number one.parent (parent_here xs place one rises within read ∙ ap (λ b. cond b one.parent 0) (lt-ltb one.parent one.number less)) some
    ∙ ap (root_in xs) (number_here xs place one d within read)

-- a number that none has begins its thread
pub root_unknown : (xs : List Summary) (number : ℕ) → All (λ one. (one.number == number) ≡ false) xs → number ≡ root_in xs number
root_unknown xs number none = root_alone xs number (ap lower_parent (find_none (λ one. one.number == number) xs none))

-- where a lower number stands it stands before
pub stands_before : (xs : List Summary) (place at number : ℕ) (one : Summary) → NumbersRise xs → place < length xs → one ≡ get_or xs place one → at < length xs
    → ((d : Summary) → (get_or xs at d).number ≡ number) → number < one.number → at < place
stands_before xs place at number one rises within read inside is less =
    elim (cases_lt at place) [
      | inl before ↦ before
      | inr from ↦ absurd (behind from (cases_lt place at))
    ]
  where
    here : (get_or xs place one).number ≡ one.number
    here = ap (λ (x : Summary). x.number) (sym read)

    there : (get_or xs at one).number ≡ number
    there = is one

    behind : place ≤ at → (place < at) ⊎ (at ≤ place) → ⊥
    behind from (inl after) = let more : (get_or xs place one).number < (get_or xs at one).number = rises place at one after inside in omega (arith, here, there)
    behind from (inr upto) =
        let same : at ≡ place = omega arith in
        let number_there : (get_or xs at one).number ≡ (get_or xs place one).number = ap (λ k. (get_or xs k one).number) same in
        omega (arith, here, there)

-- a summary of nothing
abbrev pub no_summary : Summary
no_summary = record { number = 0; from = short_of 36 []; to = short_of 36 []; subject = short_of 72 []; written = 0; attribute = 0; parent = 0 }

-- the root that is known of a place
pub root_known : (xs : List Summary) (roots : List ℕ) (place at number d : ℕ) → roots ≡ map (λ one. root_in xs one.number) (take place xs) → at < place → place ≤ length xs
    → ((e : Summary) → (get_or xs at e).number ≡ number) → get_or roots at d ≡ root_in xs number
root_known xs roots place at number d are before within is =
    let long : at < length (take place xs) = omega (arith, length-take {A = Summary}) in
    ap (λ (l : List ℕ). get_or l at d) are
    ∙ get_or-map (λ (one : Summary). root_in xs one.number) (take place xs) at no_summary d long
    ∙ ap (λ (one : Summary). root_in xs one.number) (get_or-take place xs at no_summary before)
    ∙ ap (root_in xs) (is no_summary)

-- the root of the one at a place, where all are known
pub root_of_place : (xs : List Summary) (roots : List ℕ) (at number d : ℕ) → roots ≡ map (λ one. root_in xs one.number) xs → at < length xs
    → ((e : Summary) → (get_or xs at e).number ≡ number) → get_or roots at d ≡ root_in xs number
root_of_place xs roots at number d are within is =
    ap (λ (l : List ℕ). get_or l at d) are ∙ get_or-map (λ (one : Summary). root_in xs one.number) xs at no_summary d within ∙ ap (root_in xs) (is no_summary)

-- the roots with one more
pub roots_more : (xs : List Summary) (place root : ℕ) (old new : List ℕ) → place < length xs → old ≡ map (λ one. root_in xs one.number) (take place xs)
    → ((d : Summary) → root ≡ root_in xs (get_or xs place d).number) → new ≡ old ++ root ∷ [] → new ≡ map (λ one. root_in xs one.number) (take (place + 1) xs)
roots_more xs place root old new within are is pushed =
    pushed ∙ ap (λ (l : List ℕ). l ++ root ∷ []) are ∙ ap (λ r. map (λ (one : Summary). root_in xs one.number) (take place xs) ++ r ∷ []) (is no_summary)
    ∙ sym (map_more (λ (one : Summary). root_in xs one.number) xs place no_summary within)

-- the thread of a number that is listed
pub thread_is : (xs : List Summary) (listed : Summary → Bool) (number root : ℕ) → is_some (find (λ one. one.number == number) (filter listed xs)) ≡ true → root ≡ root_in xs number
    → filter (λ one. listed one && (root_in xs one.number == root)) xs ≡ thread_among xs (filter listed xs) number
thread_is xs listed number root there is =
    sym (filter_filter (λ one. root_in xs one.number == root) listed xs)
    ∙ ap (λ r. filter (λ (one : Summary). root_in xs one.number == r) (filter listed xs)) is
    ∙ sym (ap (λ b. cond b (filter (λ (one : Summary). root_in xs one.number == root_in xs number) (filter listed xs)) []) there)

-- there is one for each
pub roots_length : (xs : List Summary) (roots : List ℕ) (place : ℕ) → roots ≡ map (λ one. root_in xs one.number) (take place xs) → place ≤ length xs → length roots ≡ place
roots_length xs roots place are within = ap length are ∙ length-map (take place xs) (λ (one : Summary). root_in xs one.number) ∙ (let long : length (take place xs) ≡ place = omega (arith, length-take {A = Summary}) in long)

-- the root of one at a place, where all are known
pub root_of_one : (xs : List Summary) (roots : List ℕ) (at : ℕ) (one : Summary) → roots ≡ map (λ x. root_in xs x.number) xs → at < length xs → one ≡ get_or xs at one
    → get_or roots at 0 ≡ root_in xs one.number
root_of_one xs roots at one are within read = root_of_place xs roots at one.number 0 are within (λ e. sym (number_here xs at one e within read))
