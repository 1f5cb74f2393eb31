-- A relink links an area, and a second one changes nothing.
use Rattle.std.proofs.Common.{◌≡◌, ℕ, zero, suc, ◌+◌, Bool, true, false, not, cond, ◌==◌, ◌&&◌, List, [], ◌∷◌, length, get_or, map, All, Option, Some, None, find, refl, sym, ◌∙◌, ap, subst, arith}
use Rattle.std.specs.Prelude.{IfSome, count_by, filter, nat_lt}
use Rattle.std.proofs.lemmas.Bool.{and_from, and_parts, cond-false, eqb-true, eq-eqb, not-false}
use Rattle.std.proofs.lemmas.List.Elements.{All-cons}
use Rattle.std.proofs.lemmas.List.Sums.{length-filter}
use Rattle.jb_state.proofs.LinkLaws.{all_rest}
use Rattle.jb_state.specs.Links.{HasItsLinks, IsLinked, Linkable, first_reply_of, is_answered_by, is_kept_by, is_next_reply, is_reply_to, linkable, linkables_of, next_reply_of, number_or_0, parent_for, parent_of}
use Rattle.jb_state.specs.Live.{Numbered, change_live_from, live_from, live_in, counted}
use Rattle.jb_state.specs.Relinked.{has_its_links, relinked, relinked_area, wrongly_linked}
use Rattle.jb_state.specs.State.{AreaState, LiveMessage, SlotState, no_message, killed_message, live_message}
use Rattle.jb_state.proofs.ThreadLaws.{find_passes}

-- a numbered message with its message changed
abbrev pub changed_by : (ℕ → LiveMessage → LiveMessage) → Numbered → Numbered
changed_by change one = record { number = one.number; message = change one.number one.message }

-- the live messages of changed slots are the changed live messages
pub live_from-change : (change : ℕ → LiveMessage → LiveMessage) (number : ℕ) (slots : List SlotState) → live_from number (change_live_from change number slots) ≡ map (changed_by change) (live_from number slots)
live_from-change change number [] = refl
live_from-change change number (no_message ∷ slots) = live_from-change change (number + 1) slots
live_from-change change number (killed_message ∷ slots) = live_from-change change (number + 1) slots
live_from-change change number (live_message message ∷ slots) =
    ap (λ (rest : List Numbered). record { number = number; message = change number message } ∷ rest) (live_from-change change (number + 1) slots)

-- what the links rest on, once the parent is written
abbrev pub with_kept : List Linkable → Linkable → Linkable
with_kept live one = record { number = one.number; msgid = one.msgid; replyid = one.replyid; kept = parent_of live one }

-- by whether the first passes
found_by : (b : Bool) (test other : Linkable → Bool) (change : Linkable → Linkable) (one : Linkable) (rest : List Linkable) → (change one).number ≡ one.number → number_or_0 (find test (map change rest)) ≡ number_or_0 (find other rest) → number_or_0 (cond b (Some (change one)) (find test (map change rest))) ≡ number_or_0 (cond b (Some one) (find other rest))
found_by true test other change one rest number later = number
found_by false test other change one rest number later = later

-- a search by a test that a change leaves alone finds the same number
pub found_number-map : (test other : Linkable → Bool) (change : Linkable → Linkable) → ((one : Linkable) → test (change one) ≡ other one) → ((one : Linkable) → (change one).number ≡ one.number) → (live : List Linkable) → number_or_0 (find test (map change live)) ≡ number_or_0 (find other live)
found_number-map test other change same number [] = refl
found_number-map test other change same number (one ∷ rest) =
    let P : Bool → Type 0 = λ b. number_or_0 (cond b (Some (change one)) (find test (map change rest))) ≡ number_or_0 (find other (one ∷ rest)) in
    subst P (sym (same one)) (found_by (other one) test other change one rest (number one) (found_number-map test other change same number rest))

-- the kept number of what was found
pub kept_again : (live : List Linkable) (number kept : ℕ) (found : Option Linkable) → find (is_kept_by number kept) live ≡ found → IfSome found (λ one. is_kept_by number kept one ≡ true) → number_or_0 (find (is_kept_by number (number_or_0 found)) live) ≡ number_or_0 found
kept_again live number kept None is passes = found_none (find (is_kept_by number 0) live) (find_passes (is_kept_by number 0) live)
  where
    found_none : (found : Option Linkable) → IfSome found (λ one. is_kept_by number 0 one ≡ true) → number_or_0 found ≡ 0
    found_none None passes = refl
    found_none (Some one) passes = eqb-true one.number 0 (and_parts _ _ passes).1
kept_again live number kept (Some one) is passes =
    let same : kept ≡ one.number = sym (eqb-true one.number kept (and_parts _ _ passes).1) in
    let P : ℕ → Type 0 = λ k. number_or_0 (find (is_kept_by number k) live) ≡ one.number in
    subst P same (ap number_or_0 is)

-- written parents are the same parents
parent_for-kept : (live : List Linkable) (number : ℕ) (id : Option (List ℕ)) (kept : ℕ) → parent_for (map (with_kept live) live) number id (parent_for live number id kept) ≡ parent_for live number id kept
parent_for-kept live number (Some bytes) kept =
    found_number-map (is_answered_by number bytes) (is_answered_by number bytes) (with_kept live) (λ one. refl) (λ one. refl) live
parent_for-kept live number None kept =
    found_number-map (is_kept_by number (parent_for live number None kept)) (is_kept_by number (parent_for live number None kept)) (with_kept live) (λ one. refl) (λ one. refl) live
    ∙ kept_again live number kept (find (is_kept_by number kept) live) refl (find_passes (is_kept_by number kept) live)

-- the parent of a message is the same once all parents are written
pub parent_of-kept : (live : List Linkable) (one : Linkable) → parent_of (map (with_kept live) live) (with_kept live one) ≡ parent_of live one
parent_of-kept live one = parent_for-kept live one.number one.replyid one.kept

-- the first reply of a number is the same once all parents are written
pub first_reply_of-kept : (live : List Linkable) (number : ℕ) → first_reply_of (map (with_kept live) live) number ≡ first_reply_of live number
first_reply_of-kept live number =
    found_number-map (is_reply_to (map (with_kept live) live) number) (is_reply_to live number) (with_kept live)
    (λ one. ap (λ p. p == number) (parent_of-kept live one)) (λ one. refl) live

-- the next reply of a number is the same once all parents are written
pub next_reply_of-kept : (live : List Linkable) (number parent : ℕ) → next_reply_of (map (with_kept live) live) number parent ≡ next_reply_of live number parent
next_reply_of-kept live number parent =
    ap (λ n. cond (parent == 0) 0 n)
    (found_number-map (is_next_reply (map (with_kept live) live) number parent) (is_next_reply live number parent) (with_kept live)
    (λ one. ap (λ p. nat_lt number one.number && (p == parent)) (parent_of-kept live one)) (λ one. refl) live)

-- what holds of each changed element holds of each of the changed list
pub all_map : {X Y : Type 0} (P : Y → Type 0) (change : X → Y) (xs : List X) → ((x : X) → P (change x)) → All P (map change xs)
all_map P change [] each k d within = absurd (omega arith)
all_map P change (x ∷ xs) each zero d within = each x
all_map P change (x ∷ xs) each (suc k) d within = all_map P change xs each k d (omega arith)

-- a list changed twice
pub map-map : {X Y Z : Type 0} (f : X → Y) (g : Y → Z) (xs : List X) → map g (map f xs) ≡ map (λ x. g (f x)) xs
map-map f g [] = refl
map-map f g (x ∷ xs) = ap (λ l. g (f x) ∷ l) (map-map f g xs)

-- a live message with the links that these give it
abbrev pub relinked_one : List Linkable → Numbered → Numbered
relinked_one live one = record { number = one.number; message = relinked live one }

-- the live messages of a relinked area are the relinked live messages
pub live_in-relinked : (state : AreaState) → live_in (relinked_area state) ≡ map (relinked_one (linkables_of state)) (live_in state)
live_in-relinked state =
    live_from-change (λ number message. relinked (linkables_of state) (record { number = number; message = message })) state.base state.slots

-- what the links of relinked messages rest on: the same, with the parents written
pub linkables-relinked : (live : List Linkable) (messages : List Numbered) → map linkable (map (relinked_one live) messages) ≡ map (with_kept live) (map linkable messages)
linkables-relinked live messages = map-map (relinked_one live) linkable messages ∙ sym (map-map linkable (with_kept live) messages)

-- a relinked message has the links that the relinked ones give
relinked_has : (live : List Linkable) (one : Numbered) → HasItsLinks (map (with_kept live) live) (relinked_one live one)
relinked_has live one = record {
  reply_to = sym (parent_of-kept live (linkable one));
  reply_first = sym (first_reply_of-kept live one.number);
  reply_next =
      sym (ap (λ p. next_reply_of (map (with_kept live) live) one.number p) (parent_of-kept live (linkable one))
      ∙ next_reply_of-kept live one.number (parent_of live (linkable one)));
}

-- messages with written links, in a list of which they are all, have their links
pub all_linked : (live : List Linkable) (messages : List Numbered) → map linkable messages ≡ live → All (HasItsLinks (map linkable (map (relinked_one live) messages))) (map (relinked_one live) messages)
all_linked live messages is =
    let P : List Linkable → Type 0 = λ l. All (HasItsLinks l) (map (relinked_one live) messages) in
    let same : map (with_kept live) live ≡ map linkable (map (relinked_one live) messages) =
    ap (map (with_kept live)) (sym is) ∙ sym (linkables-relinked live messages) in
    subst P same (all_map (HasItsLinks (map (with_kept live) live)) (relinked_one live) messages (relinked_has live))

-- a relinked area is linked
pub relinked_is_linked : (state : AreaState) → IsLinked (relinked_area state)
relinked_is_linked state =
    let P : List Numbered → Type 0 = λ messages. All (HasItsLinks (map linkable messages)) messages in
    subst P (sym (live_in-relinked state)) (all_linked (linkables_of state) (live_in state) refl)

-- none passes where each fails
none_passes : {X : Type 0} (test : X → Bool) (xs : List X) → All (λ x. test x ≡ false) xs → filter test xs ≡ []
none_passes test [] each = refl
none_passes test (x ∷ xs) each =
    let fails : test x ≡ false = each 0 x (omega arith) in
    cond-false (test x) (x ∷ filter test xs) (filter test xs) fails ∙ none_passes test xs (all_rest (λ y. test y ≡ false) x xs each)

-- none is counted where each fails
pub none_counted : {X : Type 0} (test : X → Bool) (xs : List X) → All (λ x. test x ≡ false) xs → count_by test xs ≡ 0
none_counted test xs each = sym (length-filter test xs) ∙ ap length (none_passes test xs each)

-- links that are right are told so
pub told_linked : (live : List Linkable) (one : Numbered) → HasItsLinks live one → has_its_links live one ≡ true
told_linked live one has =
    and_from _ _ (and_from _ _ (eq-eqb one.message.head.reply_to (parent_of live (linkable one)) has.reply_to)
    (eq-eqb one.message.head.reply_first (first_reply_of live one.number) has.reply_first))
    (eq-eqb one.message.head.reply_next (next_reply_of live one.number (parent_of live (linkable one))) has.reply_next)

-- what is told so is right
pub linked_as_told : (live : List Linkable) (one : Numbered) → has_its_links live one ≡ true → HasItsLinks live one
linked_as_told live one told =
    let outer : _ = and_parts _ _ told in
    let inner : _ = and_parts _ _ outer.0 in
    record {
      reply_to = eqb-true one.message.head.reply_to (parent_of live (linkable one)) inner.0;
      reply_first = eqb-true one.message.head.reply_first (first_reply_of live one.number) inner.1;
      reply_next = eqb-true one.message.head.reply_next (next_reply_of live one.number (parent_of live (linkable one))) outer.1;
    }

-- in a linked area no link is another than the area gives
pub linked_is_right : (state : AreaState) → IsLinked state → wrongly_linked state ≡ 0
linked_is_right state linked =
    none_counted (λ one. not (has_its_links (linkables_of state) one)) (live_in state)
    (λ k d within. ap not (told_linked (linkables_of state) (get_or (live_in state) k d) (linked k d within)))

-- a second relink changes nothing
pub second_relink : (state : AreaState) → wrongly_linked (relinked_area state) ≡ 0
second_relink state = linked_is_right (relinked_area state) (relinked_is_linked state)

-- where a test keeps nothing, each fails it
each_fails : {X : Type 0} (test : X → Bool) (xs : List X) → length (filter test xs) ≡ 0 → All (λ x. test x ≡ false) xs
each_fails test [] none = λ k d low. absurd (omega arith)
each_fails test (x ∷ xs) none = by_first (test x) refl none (each_fails test xs)
  where
    by_first : (b : Bool) → test x ≡ b → length (cond b (x ∷ filter test xs) (filter test xs)) ≡ 0 → (length (filter test xs) ≡ 0 → All (λ y. test y ≡ false) xs) → All (λ y. test y ≡ false) (x ∷ xs)
    by_first true passes kept rest = absurd (omega (arith, kept))
    by_first false fails kept rest = All-cons (λ y. test y ≡ false) x xs fails (rest kept)

-- where no message is wrongly linked the area is linked
pub right_is_linked : (state : AreaState) → wrongly_linked state ≡ 0 → IsLinked state
right_is_linked state none =
    let wrong : Numbered → Bool = λ one. not (has_its_links (linkables_of state) one) in
    λ k d within. linked_as_told (linkables_of state) (get_or (live_in state) k d)
    (not-false (has_its_links (linkables_of state) (get_or (live_in state) k d))
    (each_fails wrong (live_in state) (length-filter wrong (live_in state) ∙ none) k d within))

-- links do not rest on what is counted of the changes
pub counted_is_linked : (state : AreaState) → IsLinked state → IsLinked (counted state)
counted_is_linked state linked = linked
