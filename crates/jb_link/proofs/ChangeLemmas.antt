-- How many links are other ones, and when none is.
use Rattle.std.proofs.Common.{◌≡◌, ◌↔◌, ℕ, suc, ◌+◌, ◌-◌, ◌≤◌, nat_lt, Bool, true, false, not, ◌&&◌, ◌==◌, cond, List, [], ◌∷◌, Some, None, All, count_by, map, length, slice_get, refl, sym, ◌∙◌, ap, arith, le-ltb, eq-eqb, eqb-true, zero-add}
use Rattle.std.proofs.lemmas.Bool.{and_from, and_parts, not-false, not_from_true}
use Rattle.std.proofs.lemmas.List.Elements.{All-cons, All-head, All-tail}
use Rattle.std.proofs.lemmas.List.Sums.{count_by-le-length, sum_by-cons}
use Rattle.std.proofs.lemmas.List.{length-map}
use Rattle.jb_state.specs.Links.{HasItsLinks, IsLinked, Linkable, first_reply_of, linkable, linkables_of, next_reply_of, parent_of}
use Rattle.jb_state.specs.Live.{Numbered, live_from, live_in}
use Rattle.jb_state.specs.Relinked.{has_its_links, wrongly_linked}
use Rattle.jb_state.specs.State.{AreaState, slot_state, state_of, text_of}
use Rattle.jb_state.specs.declared.loaded.Loaded.{Loaded}
use Rattle.jb_state.specs.declared.loaded.LoadedSlot.{LoadedSlot}
use Rattle.jb_state.specs.declared.loaded.LoadedSlot.TheVariants.{Empty, Killed, Live}
use Rattle.jb_state.specs.declared.links.Links.{Links}
use Rattle.jb_state.specs.Plan.{differs, links_of, loaded_at, plan_of}
use Rattle.jb_state.specs.LiveSlots.{linkables_from, loaded_linkable, message_in}
use Rattle.jb_link.proofs.LiveLemmas.{linkables_with_texts}

-- 1 where it is true
abbrev one_if : Bool → ℕ
one_if b = cond b 1 0

-- one more in front counts where it passes
count_cons : {X : Type 0} (p : X → Bool) (x : X) (xs : List X) → count_by p (x ∷ xs) ≡ one_if (p x) + count_by p xs
count_cons p x xs = sum_by-cons (λ y. cond (p y) 1 0) x xs

-- these slots are those of the loaded area from a place on
abbrev AreFrom : Loaded → ℕ → List LoadedSlot → Type 0
AreFrom loaded k slots = (j : ℕ) → slice_get slots j ≡ slice_get loaded.slots (k + j)

-- one place further
further : (loaded : Loaded) (k : ℕ) (slot : LoadedSlot) (slots : List LoadedSlot) → AreFrom loaded k (slot ∷ slots) → AreFrom loaded (k + 1) slots
further loaded k slot slots h = λ j. let e : k + suc j ≡ k + 1 + j = omega arith in h (suc j) ∙ ap (slice_get loaded.slots) e

-- among the slots from a place on, as many plans differ as messages are wrongly linked
counted_from : (texts : List ℕ) (loaded : Loaded) (live : List Linkable) (k n : ℕ) (slots : List LoadedSlot) → n ≡ loaded.base + k → AreFrom loaded k slots
    → count_by (λ links. differs (loaded_at loaded links.number) links) (map (links_of live) (linkables_from n slots))
    ≡ count_by (λ one. not (has_its_links live one)) (live_from n (map (slot_state texts) slots))
counted_from texts loaded live k n [] e are = refl
counted_from texts loaded live k n (Empty ∷ slots) e are = counted_from texts loaded live (k + 1) (n + 1) slots (omega arith) (further loaded k Empty slots are)
counted_from texts loaded live k n (Killed at ∷ slots) e are = counted_from texts loaded live (k + 1) (n + 1) slots (omega arith) (further loaded k (Killed at) slots are)
counted_from texts loaded live k n (Live message ∷ slots) e are =
    let above : nat_lt n loaded.base ≡ false = le-ltb n loaded.base (omega arith) in
    let place : n - loaded.base ≡ k + 0 = omega arith in
    let here : loaded_at loaded n ≡ Some message
    = ap (λ b. cond b None (message_in (slice_get loaded.slots (n - loaded.base)))) above
    ∙ ap (λ j. message_in (slice_get loaded.slots j)) place ∙ ap message_in (sym (are 0)) in
    let one : Links = links_of live (loaded_linkable n message) in
    count_cons (λ links. differs (loaded_at loaded links.number) links) one (map (links_of live) (linkables_from (n + 1) slots))
    ∙ ap (λ found. one_if (differs found one) + count_by (λ links. differs (loaded_at loaded links.number) links) (map (links_of live) (linkables_from (n + 1) slots))) here
    ∙ ap (λ rest. one_if (differs (Some message) one) + rest) (counted_from texts loaded live (k + 1) (n + 1) slots (omega arith) (further loaded k (Live message) slots are))
    ∙ sym (count_cons (λ x. not (has_its_links live x)) (record { number = n; message = record { owner = message.owner; head = message.head; subfields = message.subfields; text = text_of texts message } }) (live_from (n + 1) (map (slot_state texts) slots)))

-- as many plans differ as messages are wrongly linked
pub counted_changes : (texts : List ℕ) (loaded : Loaded) (plan : List Links) → plan ≡ plan_of (linkables_of (state_of [] loaded))
    → count_by (λ links. differs (loaded_at loaded links.number) links) plan ≡ wrongly_linked (state_of texts loaded)
counted_changes texts loaded plan is =
    let same : linkables_of (state_of texts loaded) ≡ linkables_from loaded.base loaded.slots = linkables_with_texts texts loaded.base loaded.slots in
    ap (count_by (λ links. differs (loaded_at loaded links.number) links)) is
    ∙ counted_from texts loaded (linkables_from loaded.base loaded.slots) 0 loaded.base loaded.slots (omega arith) (λ j. ap (slice_get loaded.slots) (sym (zero-add j)))
    ∙ ap (λ live. count_by (λ one. not (has_its_links live one)) (live_in (state_of texts loaded))) (sym same)

-- where none is counted, all are as they should be
none_counted : {X : Type 0} (p : X → Bool) (P : X → Type 0) → ((x : X) → p x ≡ false → P x) → (xs : List X) → count_by p xs ≡ 0 → All P xs
none_counted p P means [] e = λ k d below. absurd (omega arith)
none_counted p P means (x ∷ xs) e = by_first (p x) refl (sym (count_cons p x xs) ∙ e) (none_counted p P means xs)
  where
    by_first : (b : Bool) → p x ≡ b → one_if (p x) + count_by p xs ≡ 0 → (count_by p xs ≡ 0 → All P xs) → All P (x ∷ xs)
    by_first true t h rest = let some : one_if (p x) ≡ 1 = ap one_if t in absurd (omega arith)
    by_first false t h rest = let none : one_if (p x) ≡ 0 = ap one_if t in All-cons P x xs (means x t) (rest (omega arith))

-- where all are as they should be, none is counted
all_uncounted : {X : Type 0} (p : X → Bool) (P : X → Type 0) → ((x : X) → P x → p x ≡ false) → (xs : List X) → All P xs → count_by p xs ≡ 0
all_uncounted p P means [] all = refl
all_uncounted p P means (x ∷ xs) all =
    let rest : count_by p xs ≡ 0 = all_uncounted p P means xs (All-tail P x xs all) in
    let none : one_if (p x) ≡ 0 = ap one_if (means x (All-head P x xs all)) in
    count_cons p x xs ∙ (let both : one_if (p x) + count_by p xs ≡ 0 = omega arith in both)

-- the test of the links says what they are
links_told : (live : List Linkable) (one : Numbered) → not (has_its_links live one) ≡ false → HasItsLinks live one
links_told live one e =
    let all : has_its_links live one ≡ true = not-false (has_its_links live one) e in
    let parts = and_parts ((one.message.head.reply_to == parent_of live (linkable one)) && (one.message.head.reply_first == first_reply_of live one.number)) _ all in
    let front = and_parts (one.message.head.reply_to == parent_of live (linkable one)) (one.message.head.reply_first == first_reply_of live one.number) parts.0 in
    record {
      reply_to = eqb-true one.message.head.reply_to (parent_of live (linkable one)) front.0;
      reply_first = eqb-true one.message.head.reply_first (first_reply_of live one.number) front.1;
      reply_next = eqb-true one.message.head.reply_next (next_reply_of live one.number (parent_of live (linkable one))) parts.1;
    }

links_hold : (live : List Linkable) (one : Numbered) → HasItsLinks live one → not (has_its_links live one) ≡ false
links_hold live one h =
    not_from_true (has_its_links live one)
    (and_from _ _
    (and_from _ _ (eq-eqb one.message.head.reply_to (parent_of live (linkable one)) h.reply_to) (eq-eqb one.message.head.reply_first (first_reply_of live one.number) h.reply_first))
    (eq-eqb one.message.head.reply_next (next_reply_of live one.number (parent_of live (linkable one))) h.reply_next))

-- no message is wrongly linked exactly where the area is linked
pub none_wrong : (state : AreaState) → (wrongly_linked state ≡ 0) ↔ IsLinked state
none_wrong state = (
  none_counted (λ one. not (has_its_links (linkables_of state) one)) (HasItsLinks (linkables_of state)) (links_told (linkables_of state)) (live_in state),
  all_uncounted (λ one. not (has_its_links (linkables_of state) one)) (HasItsLinks (linkables_of state)) (links_hold (linkables_of state)) (live_in state),
)

-- there are no more live messages than slots
pub live_within : (n : ℕ) (slots : List LoadedSlot) → length (linkables_from n slots) ≤ length slots
live_within n [] = omega arith
live_within n (Empty ∷ slots) = let h : length (linkables_from (n + 1) slots) ≤ length slots = live_within (n + 1) slots in omega arith
live_within n (Killed at ∷ slots) = let h : length (linkables_from (n + 1) slots) ≤ length slots = live_within (n + 1) slots in omega arith
live_within n (Live message ∷ slots) = let h : length (linkables_from (n + 1) slots) ≤ length slots = live_within (n + 1) slots in omega arith

-- no more are counted than there are slots
pub count_within : (p : Links → Bool) (loaded : Loaded) (plan : List Links) → plan ≡ plan_of (linkables_of (state_of [] loaded)) → count_by p plan ≤ length loaded.slots
count_within p loaded plan is =
    let few : count_by p plan ≤ length plan = count_by-le-length p plan in
    let long : length plan ≡ length (linkables_from loaded.base loaded.slots) = ap length is ∙ length-map (linkables_from loaded.base loaded.slots) (links_of (linkables_from loaded.base loaded.slots)) in
    let within : length (linkables_from loaded.base loaded.slots) ≤ length loaded.slots = live_within loaded.base loaded.slots in
    omega arith
