-- Live messages of slots, one of which is another now.
use Rattle.std.proofs.Common.{◌≡◌, ℕ, zero, suc, ◌+◌, ◌<◌, ◌≤◌, true, false, ◌==◌, List, [], ◌∷◌, ◌++◌, Some, map, length, slice_get, slice_set, refl, sym, ◌∙◌, ap, arith, eq-eqb, ne_eqb}
use Rattle.std.specs.Prelude.{All}
use Rattle.std.proofs.lemmas.List.Elements.{All-cons, All-nil}
use Rattle.jb_state.specs.Live.{Numbered, live_from}
use Rattle.jb_state.specs.State.{LiveMessage, SlotState, killed_message, live_message, no_message}
use Rattle.jb_state.specs.declared.summary.Summary.{Summary}
use Rattle.jb_index.specs.Edit.{changed_at}
use Rattle.jb_index.proofs.EditLemmas.{changed_none}

-- a live message and its number
abbrev pub numbered : ℕ → LiveMessage → Numbered
numbered number message = record { number = number; message = message }

-- the first slots and then the others
pub live_from-append : (base : ℕ) (xs ys : List SlotState) → live_from base (xs ++ ys) ≡ live_from base xs ++ live_from (base + length xs) ys
live_from-append base [] ys = let e : base ≡ base + 0 = omega arith in ap (λ n. live_from n ys) e
live_from-append base (no_message ∷ xs) ys =
    let e : base + 1 + length xs ≡ base + suc (length xs) = omega arith in
    live_from-append (base + 1) xs ys ∙ ap (λ n. live_from (base + 1) xs ++ live_from n ys) e
live_from-append base (killed_message ∷ xs) ys =
    let e : base + 1 + length xs ≡ base + suc (length xs) = omega arith in
    live_from-append (base + 1) xs ys ∙ ap (λ n. live_from (base + 1) xs ++ live_from n ys) e
live_from-append base (live_message message ∷ xs) ys =
    let e : base + 1 + length xs ≡ base + suc (length xs) = omega arith in
    ap (λ rest. numbered base message ∷ rest) (live_from-append (base + 1) xs ys ∙ ap (λ n. live_from (base + 1) xs ++ live_from n ys) e)

-- there are no more live messages than slots
pub live_few : (base : ℕ) (slots : List SlotState) → length (live_from base slots) ≤ length slots
live_few base [] = omega arith
live_few base (no_message ∷ slots) = omega (arith, live_few (base + 1) slots)
live_few base (killed_message ∷ slots) = omega (arith, live_few (base + 1) slots)
live_few base (live_message message ∷ slots) = omega (arith, live_few (base + 1) slots)

-- what holds of each number from the first on, up to the last, holds of each live message
pub live_all : (P : Numbered → Type 0) (base : ℕ) (slots : List SlotState)
    → ((number : ℕ) (message : LiveMessage) → base ≤ number → number < base + length slots → P (numbered number message)) → All P (live_from base slots)
live_all P base [] each = All-nil P
live_all P base (no_message ∷ slots) each = live_all P (base + 1) slots (λ number message from to. each number message (omega arith) (omega arith))
live_all P base (killed_message ∷ slots) each = live_all P (base + 1) slots (λ number message from to. each number message (omega arith) (omega arith))
live_all P base (live_message message ∷ slots) each =
    All-cons P (numbered base message) (live_from (base + 1) slots) (each base message (omega arith) (omega arith))
    (live_all P (base + 1) slots (λ number other from to. each number other (omega arith) (omega arith)))

-- what agrees on each makes the same of all
pub map_agree : {X Y : Type 0} (f g : X → Y) (xs : List X) → All (λ x. f x ≡ g x) xs → map f xs ≡ map g xs
map_agree f g [] agree = refl
map_agree f g (x ∷ xs) agree =
    let here : f x ≡ g x = agree 0 x (omega arith) in
    let rest : map f xs ≡ map g xs = map_agree f g xs (λ k d within. agree (suc k) d (omega arith)) in
    ap (λ y. y ∷ map f xs) here ∙ ap (λ l. g x ∷ l) rest

-- what holds of each made of one holds of all made
pub all_made : {X Y : Type 0} (P : Y → Type 0) (f : X → Y) (xs : List X) → All (λ x. P (f x)) xs → All P (map f xs)
all_made P f [] each = All-nil P
all_made P f (x ∷ xs) each = All-cons P (f x) (map f xs) (each 0 x (omega arith)) (all_made P f xs (λ k d within. each (suc k) d (omega arith)))

-- a message at a place that is changed in what nothing rests on
pub mapped_set : {X : Type 0} (f : Numbered → X) (k base : ℕ) (slots : List SlotState) (message changed : LiveMessage) → slice_get slots k ≡ Some (live_message message)
    → ((n : ℕ) → f (numbered n changed) ≡ f (numbered n message)) → map f (live_from base (slice_set slots k (live_message changed))) ≡ map f (live_from base slots)
mapped_set f k base [] message changed at same = cc
mapped_set f zero base (no_message ∷ slots) message changed at same = cc
mapped_set f zero base (killed_message ∷ slots) message changed at same = cc
mapped_set f zero base (live_message first ∷ slots) message changed at same =
    let is : first ≡ message = cc in
    ap (λ one. one ∷ map f (live_from (base + 1) slots)) (same base ∙ ap (λ m. f (numbered base m)) (sym is))
mapped_set f (suc k) base (no_message ∷ slots) message changed at same = mapped_set f k (base + 1) slots message changed at same
mapped_set f (suc k) base (killed_message ∷ slots) message changed at same = mapped_set f k (base + 1) slots message changed at same
mapped_set f (suc k) base (live_message first ∷ slots) message changed at same =
    ap (λ rest. f (numbered base first) ∷ rest) (mapped_set f k (base + 1) slots message changed at same)

-- summaries of slots behind a number have other numbers
pub others_behind : (f : Numbered → Summary) (keeps : (one : Numbered) → (f one).number ≡ one.number) (number base : ℕ) (slots : List SlotState) → number < base
    → All (λ one. (one.number == number) ≡ false) (map f (live_from base slots))
others_behind f keeps number base slots below =
    all_made (λ one. (one.number == number) ≡ false) f (live_from base slots)
    (live_all (λ one. ((f one).number == number) ≡ false) base slots
    (λ n message from to. ne_eqb _ _ (λ same. let is : (f (numbered n message)).number ≡ n = keeps (numbered n message) in omega arith)))

-- a message at a place that is changed changes its summary alone
pub changed_set : (f : Numbered → Summary) (keeps : (one : Numbered) → (f one).number ≡ one.number) (change : Summary → Summary) (k base number : ℕ) (slots : List SlotState) (message changed : LiveMessage)
    → slice_get slots k ≡ Some (live_message message) → number ≡ base + k → f (numbered number changed) ≡ change (f (numbered number message))
    → map f (live_from base (slice_set slots k (live_message changed))) ≡ changed_at number change (map f (live_from base slots))
changed_set f keeps change k base number [] message changed at is made = cc
changed_set f keeps change zero base number (no_message ∷ slots) message changed at is made = cc
changed_set f keeps change zero base number (killed_message ∷ slots) message changed at is made = cc
changed_set f keeps change zero base number (live_message first ∷ slots) message changed at is made =
    let same : first ≡ message = cc in
    let here : base ≡ number = omega arith in
    let head : (f (numbered base first)).number ≡ number = keeps (numbered base first) ∙ here in
    let told : ((f (numbered base first)).number == number) ≡ true = eq-eqb _ _ head in
    rw told
    (ap (λ y. y ∷ map f (live_from (base + 1) slots))
    (ap (λ n. f (numbered n changed)) here ∙ made ∙ ap (λ n. change (f (numbered n message))) (sym here) ∙ ap (λ m. change (f (numbered base m))) (sym same))
    ∙ ap (λ l. change (f (numbered base first)) ∷ l) (changed_none (map f (live_from (base + 1) slots)) number change (others_behind f keeps number (base + 1) slots (omega arith))))
changed_set f keeps change (suc k) base number (no_message ∷ slots) message changed at is made = changed_set f keeps change k (base + 1) number slots message changed at (omega arith) made
changed_set f keeps change (suc k) base number (killed_message ∷ slots) message changed at is made = changed_set f keeps change k (base + 1) number slots message changed at (omega arith) made
changed_set f keeps change (suc k) base number (live_message first ∷ slots) message changed at is made =
    let head : (f (numbered base first)).number ≡ base = keeps (numbered base first) in
    let other : ((f (numbered base first)).number == number) ≡ false = ne_eqb _ _ (λ same. omega arith) in
    rw other (ap (λ l. f (numbered base first) ∷ l) (changed_set f keeps change k (base + 1) number slots message changed at (omega arith) made))
