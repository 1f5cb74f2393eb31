-- Edits of summaries whose numbers rise.
use Rattle.std.proofs.Common.{◌≡◌, ◌≢◌, inl, inr, ℕ, zero, suc, ◌<◌, ◌≤◌, nat_lt, Bool, true, false, not, ◌||◌, ◌==◌, cond, List, [], ◌∷◌, ◌++◌, Option, filter, find, length, take, drop, get_or, set, refl, sym, ◌∙◌, ap, arith, eq-eqb, ne_eqb, lt-ltb, le-ltb}
use Rattle.std.specs.Prelude.{All, insert, is_some, remove}
use Rattle.std.proofs.lemmas.Bool.{cases_lt, cond_both, eqb-false, ltb-true}
use Rattle.std.proofs.lemmas.List.{get_or-map, length-map, set_split}
use Rattle.std.proofs.lemmas.List.Elements.{All-append, All-cons, All-filter, All-head, All-tail, All-weaker, filter_passes}
use Rattle.jb_state.specs.declared.summary.Summary.{Summary}
use Rattle.jb_index.specs.Cut.{IsSplitAt, NumbersRise}
use Rattle.jb_index.specs.Edit.{above, below, changed_at, fits, with_summary, without}
use Rattle.jb_index.proofs.ListLemmas.{filter_all, filter_cut}
use Rattle.jb_index.proofs.PlaceLemmas.{find_none, is_some_find}
use Rattle.jb_index.proofs.ThreadLemmas.{no_summary}

-- what never passes keeps none
pub nothing_kept : {X : Type 0} (p : X → Bool) (xs : List X) → ((k : ℕ) (d : X) → k < length xs → p (get_or xs k d) ≡ false) → filter p xs ≡ []
nothing_kept p [] fails = refl
nothing_kept p (x ∷ xs) fails =
    let here : p x ≡ false = fails 0 x (omega arith) in
    rw here (nothing_kept p xs (λ k d within. fails (suc k) d (omega arith)))

-- of a list in two parts, of which the first passes and the second fails, the first is kept
filter_front : {X : Type 0} (p : X → Bool) (xs : List X) (at : ℕ) → at ≤ length xs → ((k : ℕ) (d : X) → k < at → p (get_or xs k d) ≡ true)
    → ((k : ℕ) (d : X) → at ≤ k → k < length xs → p (get_or xs k d) ≡ false) → filter p xs ≡ take at xs
filter_front p xs zero within passes fails = nothing_kept p xs (λ k d inside. fails k d (omega arith) inside)
filter_front p [] (suc at) within passes fails = absurd (omega arith)
filter_front p (x ∷ xs) (suc at) within passes fails =
    let here : p x ≡ true = passes 0 x (omega arith) in
    rw here (ap (λ l. x ∷ l) (filter_front p xs at (omega arith) (λ k d low. passes (suc k) d (omega arith)) (λ k d from inside. fails (suc k) d (omega arith) (omega arith))))

-- the numbers behind the first
pub rises_tail : (x : Summary) (xs : List Summary) → NumbersRise (x ∷ xs) → NumbersRise xs
rises_tail x xs rises = λ i j d before within. rises (suc i) (suc j) d (omega arith) (omega arith)

-- the first is below all behind it
pub rises_head : (x : Summary) (xs : List Summary) → NumbersRise (x ∷ xs) → All (λ y. x.number < y.number) xs
rises_head x xs rises = λ k d within. rises 0 (suc k) d (omega arith) (omega arith)

-- one more before the others
pub rises_cons : (x : Summary) (xs : List Summary) → All (λ y. x.number < y.number) xs → NumbersRise xs → NumbersRise (x ∷ xs)
rises_cons x xs higher rises i zero d before within = absurd (omega arith)
rises_cons x xs higher rises zero (suc j) d before within = higher j d (omega arith)
rises_cons x xs higher rises (suc i) (suc j) d before within = rises i j d (omega arith) (omega arith)

-- numbers rise in a filter
pub rises_filter : (p : Summary → Bool) (xs : List Summary) → NumbersRise xs → NumbersRise (filter p xs)
rises_filter p [] rises = rises
rises_filter p (x ∷ xs) rises =
    let rest : NumbersRise (filter p xs) = rises_filter p xs (rises_tail x xs rises) in
    cond_both (p x) (x ∷ filter p xs) (filter p xs) NumbersRise
    (λ here. rises_cons x (filter p xs) (All-filter p (λ y. x.number < y.number) xs (rises_head x xs rises)) rest) (λ other. rest)

-- numbers rise through two lists, of which the second is above the first
rises_append : (xs ys : List Summary) → NumbersRise xs → NumbersRise ys → All (λ x. All (λ y. x.number < y.number) ys) xs → NumbersRise (xs ++ ys)
rises_append [] ys rises others across = others
rises_append (x ∷ xs) ys rises others across =
    rises_cons x (xs ++ ys)
    (All-append (λ y. x.number < y.number) xs ys (rises_head x xs rises) (All-head (λ z. All (λ y. z.number < y.number) ys) x xs across))
    (rises_append xs ys (rises_tail x xs rises) others (All-tail (λ z. All (λ y. z.number < y.number) ys) x xs across))

-- with one more, or with another in the place of one
pub with_rises : (one : Summary) (xs : List Summary) → NumbersRise xs → NumbersRise (with_summary one xs)
with_rises one xs rises =
    rises_append (below one.number xs) (one ∷ above one.number xs) (rises_filter (λ x. nat_lt x.number one.number) xs rises)
    (rises_cons one (above one.number xs) higher (rises_filter (λ y. nat_lt one.number y.number) xs rises))
    (All-weaker (λ x. nat_lt x.number one.number ≡ true) (λ x. All (λ y. x.number < y.number) (one ∷ above one.number xs)) across (below one.number xs)
    (filter_passes (λ x. nat_lt x.number one.number) xs))
  where
    higher : All (λ y. one.number < y.number) (above one.number xs)
    higher =
        All-weaker (λ y. nat_lt one.number y.number ≡ true) (λ y. one.number < y.number) (λ y passes. ltb-true _ _ passes) (above one.number xs)
        (filter_passes (λ y. nat_lt one.number y.number) xs)

    across : (x : Summary) → nat_lt x.number one.number ≡ true → All (λ y. x.number < y.number) (one ∷ above one.number xs)
    across x passes =
        let low : x.number < one.number = ltb-true _ _ passes in
        All-cons (λ y. x.number < y.number) one (above one.number xs) low
        (All-weaker (λ y. one.number < y.number) (λ y. x.number < y.number) (λ y high. omega arith) (above one.number xs) higher)

-- without one
pub without_rises : (number : ℕ) (xs : List Summary) → NumbersRise xs → NumbersRise (without number xs)
without_rises number xs rises = rises_filter (λ one. not (one.number == number)) xs rises

-- with one changed that keeps its number
pub changed_rises : (number : ℕ) (change : Summary → Summary) (xs : List Summary) → ((one : Summary) → (change one).number ≡ one.number) → NumbersRise xs → NumbersRise (changed_at number change xs)
changed_rises number change xs keeps rises = λ i j d before within.
    let long : length (changed_at number change xs) ≡ length xs = length-map xs (λ one. cond (one.number == number) (change one) one) in
    let inside : j < length xs = omega arith in
    let less : (get_or xs i d).number < (get_or xs j d).number = rises i j d before inside in
    let one : (get_or (changed_at number change xs) i d).number ≡ (get_or xs i d).number = same i d (omega arith) in
    let other : (get_or (changed_at number change xs) j d).number ≡ (get_or xs j d).number = same j d inside in
    omega arith
  where
    same : (k : ℕ) (d : Summary) → k < length xs → (get_or (changed_at number change xs) k d).number ≡ (get_or xs k d).number
    same k d inside =
        ap (λ (x : Summary). x.number) (get_or-map (λ one. cond (one.number == number) (change one) one) xs k d d inside)
        ∙ cond_both ((get_or xs k d).number == number) (change (get_or xs k d)) (get_or xs k d) (λ x. x.number ≡ (get_or xs k d).number) (λ here. keeps (get_or xs k d)) (λ other. refl)

-- those below a number stand before its place
below_is : (xs : List Summary) (number at : ℕ) → at ≤ length xs → ((k : ℕ) (d : Summary) → k < at → (get_or xs k d).number < number)
    → ((k : ℕ) (d : Summary) → at ≤ k → k < length xs → number ≤ (get_or xs k d).number) → below number xs ≡ take at xs
below_is xs number at within lower rest =
    filter_front (λ one. nat_lt one.number number) xs at within (λ k d low. lt-ltb _ _ (lower k d low)) (λ k d from inside. le-ltb _ _ (rest k d from inside))

-- those above it stand behind
above_is : (xs : List Summary) (number at : ℕ) → at ≤ length xs → ((k : ℕ) (d : Summary) → k < at → (get_or xs k d).number ≤ number)
    → ((k : ℕ) (d : Summary) → at ≤ k → k < length xs → number < (get_or xs k d).number) → above number xs ≡ drop at xs
above_is xs number at within upto higher =
    filter_cut (λ one. nat_lt number one.number) xs at within (λ k d low. le-ltb _ _ (upto k d low)) (λ k d from inside. lt-ltb _ _ (higher k d from inside))

-- one in the place of another with its number
pub with_at : (xs : List Summary) (one : Summary) (at : ℕ) → NumbersRise xs → at < length xs → ((d : Summary) → (get_or xs at d).number ≡ one.number)
    → set xs at one ≡ with_summary one xs
with_at xs one at rises within is =
    set_split xs at one within
    ∙ ap (λ l. l ++ one ∷ drop (suc at) xs) (sym (below_is xs one.number at (omega arith) lower from_here))
    ∙ ap (λ l. below one.number xs ++ one ∷ l) (sym (above_is xs one.number (suc at) (omega arith) upto higher))
  where
    lower : (k : ℕ) (d : Summary) → k < at → (get_or xs k d).number < one.number
    lower k d low =
        let less : (get_or xs k d).number < (get_or xs at d).number = rises k at d low within in
        let here : (get_or xs at d).number ≡ one.number = is d in
        omega arith

    higher : (k : ℕ) (d : Summary) → suc at ≤ k → k < length xs → one.number < (get_or xs k d).number
    higher k d from inside =
        let less : (get_or xs at d).number < (get_or xs k d).number = rises at k d (omega arith) inside in
        let here : (get_or xs at d).number ≡ one.number = is d in
        omega arith

    from_here : (k : ℕ) (d : Summary) → at ≤ k → k < length xs → one.number ≤ (get_or xs k d).number
    from_here k d from inside =
        elim (cases_lt at k) [
          | inl behind ↦ (let more : one.number < (get_or xs k d).number = higher k d (omega arith) inside in omega arith)
          | inr back ↦
              (let same : k ≡ at = omega arith in
              let here : (get_or xs k d).number ≡ one.number = ap (λ n. (get_or xs n d).number) same ∙ is d in
              omega arith)
        ]

    upto : (k : ℕ) (d : Summary) → k < suc at → (get_or xs k d).number ≤ one.number
    upto k d low =
        elim (cases_lt k at) [
          | inl before ↦ (let less : (get_or xs k d).number < one.number = lower k d before in omega arith)
          | inr back ↦
              (let same : k ≡ at = omega arith in
              let here : (get_or xs k d).number ≡ one.number = ap (λ n. (get_or xs n d).number) same ∙ is d in
              omega arith)
        ]

-- one more, where none has its number
pub with_new : (xs : List Summary) (one : Summary) (at : ℕ) → IsSplitAt xs one.number at → All (λ x. (x.number == one.number) ≡ false) xs
    → insert xs at one ≡ with_summary one xs
with_new xs one at cut none =
    ap (λ l. l ++ one ∷ drop at xs) (sym (below_is xs one.number at cut.within cut.lower cut.rest))
    ∙ ap (λ l. below one.number xs ++ one ∷ l)
    (sym (above_is xs one.number at cut.within (λ k d low. let less : (get_or xs k d).number < one.number = cut.lower k d low in omega arith) higher))
  where
    higher : (k : ℕ) (d : Summary) → at ≤ k → k < length xs → one.number < (get_or xs k d).number
    higher k d from inside =
        let upto : one.number ≤ (get_or xs k d).number = cut.rest k d from inside in
        let other : (get_or xs k d).number ≢ one.number = eqb-false _ _ (none k d inside) in
        omega (arith, other)

-- none is left out where none has the number
pub without_none : (xs : List Summary) (number : ℕ) → All (λ x. (x.number == number) ≡ false) xs → xs ≡ without number xs
without_none xs number none = sym (filter_all (λ one. not (one.number == number)) xs (λ k d within. ap not (none k d within)))

-- those above a number have another
others_above : (x : Summary) (xs : List Summary) (number : ℕ) → x.number ≡ number → NumbersRise (x ∷ xs) → All (λ y. (y.number == number) ≡ false) xs
others_above x xs number is rises = λ k d within. ne_eqb _ _ (λ same. let more : x.number < (get_or xs k d).number = rises_head x xs rises k d within in omega arith)

-- the one with the number is left out
pub without_at : (xs : List Summary) (number at : ℕ) → NumbersRise xs → at < length xs → ((d : Summary) → (get_or xs at d).number ≡ number)
    → remove xs at ≡ without number xs
without_at [] number at rises within is = absurd (omega arith)
without_at (x ∷ xs) number zero rises within is =
    let here : (x.number == number) ≡ true = eq-eqb _ _ (is x) in
    rw here (without_none xs number (others_above x xs number (is x) rises))
without_at (x ∷ xs) number (suc at) rises within is =
    let less : x.number < (get_or xs at x).number = rises 0 (suc at) x (omega arith) within in
    let there : (get_or xs at x).number ≡ number = is x in
    let other : (x.number == number) ≡ false = ne_eqb _ _ (λ same. omega arith) in
    rw other (ap (λ l. x ∷ l) (without_at xs number at (rises_tail x xs rises) (omega arith) is))

-- none is changed where none has the number
pub changed_none : (xs : List Summary) (number : ℕ) (change : Summary → Summary) → All (λ x. (x.number == number) ≡ false) xs → xs ≡ changed_at number change xs
changed_none [] number change none = refl
changed_none (x ∷ xs) number change none =
    let here : (x.number == number) ≡ false = none 0 x (omega arith) in
    rw here (ap (λ l. x ∷ l) (changed_none xs number change (λ k d within. none (suc k) d (omega arith))))

-- the one with the number is changed
pub changed_there : (xs : List Summary) (number at : ℕ) (change : Summary → Summary) (one : Summary) → NumbersRise xs → at < length xs → ((d : Summary) → (get_or xs at d).number ≡ number)
    → ((d : Summary) → one ≡ change (get_or xs at d)) → set xs at one ≡ changed_at number change xs
changed_there [] number at change one rises within is made = absurd (omega arith)
changed_there (x ∷ xs) number zero change one rises within is made =
    let here : (x.number == number) ≡ true = eq-eqb _ _ (is x) in
    rw here
    (ap (λ y. y ∷ xs) (made x) ∙ ap (λ l. change x ∷ l) (changed_none xs number change (others_above x xs number (is x) rises)))
changed_there (x ∷ xs) number (suc at) change one rises within is made =
    let less : x.number < (get_or xs at x).number = rises 0 (suc at) x (omega arith) within in
    let there : (get_or xs at x).number ≡ number = is x in
    let other : (x.number == number) ≡ false = ne_eqb _ _ (λ same. omega arith) in
    rw other (ap (λ l. x ∷ l) (changed_there xs number at change one (rises_tail x xs rises) (omega arith) is made))

-- one with a number that stands there fits
pub fits_there : (room number : ℕ) (xs : List Summary) (at : ℕ) → at < length xs → ((d : Summary) → (get_or xs at d).number ≡ number) → fits room number xs ≡ true
fits_there room number xs at within is =
    ap (λ b. b || nat_lt (length xs) room) (is_some_find (λ one. one.number == number) xs at no_summary within (eq-eqb _ _ (is no_summary)))

-- another one fits where there is room
pub fits_new : (room number : ℕ) (xs : List Summary) (b : Bool) → All (λ x. (x.number == number) ≡ false) xs → nat_lt (length xs) room ≡ b → fits room number xs ≡ b
fits_new room number xs b none is =
    ap (λ (found : Option Summary). is_some found || nat_lt (length xs) room) (find_none (λ one. one.number == number) xs none) ∙ is

-- there is room for another
pub fits_room : (room number : ℕ) (xs : List Summary) → length xs < room → fits room number xs ≡ true
fits_room room number xs few = either (is_some (find (λ one. one.number == number) xs)) (nat_lt (length xs) room) (lt-ltb _ _ few)
  where
    either : (a b : Bool) → b ≡ true → (a || b) ≡ true
    either true b is = refl
    either false b is = is

-- one above all goes behind them
pub all_below : (one : Summary) (xs : List Summary) → All (λ x. x.number < one.number) xs → with_summary one xs ≡ xs ++ one ∷ []
all_below one xs lower =
    ap (λ l. l ++ one ∷ above one.number xs) (filter_all (λ x. nat_lt x.number one.number) xs (λ k d within. lt-ltb _ _ (lower k d within)))
    ∙ ap (λ l. xs ++ one ∷ l) (nothing_kept (λ x. nat_lt one.number x.number) xs (λ k d within. le-ltb _ _ (let less : (get_or xs k d).number < one.number = lower k d within in omega arith)))

-- a change leaves as many
pub changed_count : (number : ℕ) (change : Summary → Summary) (xs : List Summary) → length (changed_at number change xs) ≡ length xs
changed_count number change xs = length-map xs (λ one. cond (one.number == number) (change one) one)
