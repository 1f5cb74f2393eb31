-- The links of an area with one more message at its end.
use Rattle.std.proofs.Common.{◌≡◌, ◌≢◌, ℕ, zero, suc, ◌+◌, ◌-◌, ◌<◌, ◌≤◌, nat_lt, Bool, true, false, ◌&&◌, ◌==◌, cond, List, [], ◌∷◌, ◌++◌, All, Option, Some, None, find, map, length, slice_get, refl, sym, ◌∙◌, ap, arith, subst, ne_eqb, lt-ltb, le-ltb}
use Rattle.std.proofs.lemmas.List.Elements.{All-cons, All-head, All-nil, All-tail}
use Rattle.std.proofs.lemmas.List.Folds.{find-append}
use Rattle.std.specs.Option.{option_or}
use Rattle.jb_state.specs.Links.{Linkable, first_reply_of, is_id, linkable, next_reply_of, number_or_0, parent_for, parent_of}
use Rattle.jb_state.specs.Live.{Numbered, live_from}
use Rattle.jb_state.specs.State.{LiveMessage, SlotState, killed_message, live_message, no_message}
use Rattle.jb_state.specs.declared.loaded.LoadedMessage.{LoadedMessage}
use Rattle.jb_state.specs.declared.loaded.LoadedSlot.{LoadedSlot}
use Rattle.jb_state.specs.declared.loaded.LoadedSlot.TheVariants.{Empty, Killed, Live}
use Rattle.jb_state.specs.LiveSlots.{linkables_from, loaded_linkable}
use Rattle.jb_link.proofs.EachLemmas.{found_from}
use Rattle.jb_link.proofs.RangeLemmas.{option_or_none, same_found}

-- a message without its text and its places
abbrev pub unload : LiveMessage → LoadedMessage
unload message = record { owner = message.owner; head = message.head; subfields = message.subfields; header_at = 0; text_at = 0; text_len = 0 }

-- a slot without the text of its message
abbrev pub unloaded : SlotState → LoadedSlot
unloaded no_message = Empty
unloaded killed_message = Killed 0
unloaded (live_message message) = Live (unload message)

-- the links of a state rest on the same as those of its slots without texts
pub linkables_unloaded : (number : ℕ) (slots : List SlotState) → map linkable (live_from number slots) ≡ linkables_from number (map unloaded slots)
linkables_unloaded number [] = refl
linkables_unloaded number (no_message ∷ slots) = linkables_unloaded (number + 1) slots
linkables_unloaded number (killed_message ∷ slots) = linkables_unloaded (number + 1) slots
linkables_unloaded number (live_message message ∷ slots) = ap (λ rest. loaded_linkable number (unload message) ∷ rest) (linkables_unloaded (number + 1) slots)

-- what holds at each place of a live message holds of all
pub all_from_places : (P : Numbered → Type 0) (base : ℕ) (slots : List SlotState)
    → ((k : ℕ) (message : LiveMessage) → slice_get slots k ≡ Some (live_message message) → P (record { number = base + k; message = message }))
    → All P (live_from base slots)
all_from_places P base [] f = All-nil P
all_from_places P base (no_message ∷ slots) f = all_from_places P (base + 1) slots
    (λ k message at. let same : base + suc k ≡ base + 1 + k = omega arith in subst (λ (n : ℕ). P (record { number = n; message = message })) same (f (suc k) message at))
all_from_places P base (killed_message ∷ slots) f = all_from_places P (base + 1) slots
    (λ k message at. let same : base + suc k ≡ base + 1 + k = omega arith in subst (λ (n : ℕ). P (record { number = n; message = message })) same (f (suc k) message at))
all_from_places P base (live_message first ∷ slots) f =
    let here : base + 0 ≡ base = omega arith in
    All-cons P (record { number = base; message = first }) (live_from (base + 1) slots)
    (subst (λ (n : ℕ). P (record { number = n; message = first })) here (f 0 first refl))
    (all_from_places P (base + 1) slots
    (λ k message at. let same : base + suc k ≡ base + 1 + k = omega arith in subst (λ (n : ℕ). P (record { number = n; message = message })) same (f (suc k) message at)))

-- and what holds of all holds at each place
pub place_from_all : (P : Numbered → Type 0) (k base : ℕ) (slots : List SlotState) (message : LiveMessage) → All P (live_from base slots)
    → slice_get slots k ≡ Some (live_message message) → P (record { number = base + k; message = message })
place_from_all P k base [] message all at = cc
place_from_all P zero base (no_message ∷ slots) message all at = cc
place_from_all P zero base (killed_message ∷ slots) message all at = cc
place_from_all P zero base (live_message first ∷ slots) message all at =
    let is : first ≡ message = cc in
    let here : base ≡ base + 0 = omega arith in
    let held : P (record { number = base; message = first }) = All-head P (record { number = base; message = first }) (live_from (base + 1) slots) all in
    subst (λ (n : ℕ). P (record { number = n; message = message })) here (subst (λ (m : LiveMessage). P (record { number = base; message = m })) is held)
place_from_all P (suc k) base (no_message ∷ slots) message all at =
    let same : base + 1 + k ≡ base + suc k = omega arith in
    subst (λ (n : ℕ). P (record { number = n; message = message })) same (place_from_all P k (base + 1) slots message all at)
place_from_all P (suc k) base (killed_message ∷ slots) message all at =
    let same : base + 1 + k ≡ base + suc k = omega arith in
    subst (λ (n : ℕ). P (record { number = n; message = message })) same (place_from_all P k (base + 1) slots message all at)
place_from_all P (suc k) base (live_message first ∷ slots) message all at =
    let same : base + 1 + k ≡ base + suc k = omega arith in
    subst (λ (n : ℕ). P (record { number = n; message = message })) same
    (place_from_all P k (base + 1) slots message (All-tail P (record { number = base; message = first }) (live_from (base + 1) slots) all) at)

-- one more message behind changes no parent of those before
pub parent_kept : (live : List Linkable) (new : Linkable) (n : ℕ) (reply : Option (List ℕ)) (kept : ℕ) → n ≤ new.number
    → parent_for (live ++ new ∷ []) n reply kept ≡ parent_for live n reply kept
parent_kept live new n (Some id) kept h =
    let f : Linkable → Bool = λ one. nat_lt one.number n && is_id id one.msgid in
    ap number_or_0
    (find-append f live (new ∷ []) ∙ ap (λ b. option_or (find f live) (cond (b && is_id id new.msgid) (Some new) None)) (le-ltb new.number n h) ∙ option_or_none (find f live))
parent_kept live new n None kept h =
    let f : Linkable → Bool = λ one. nat_lt one.number n && (one.number == kept) in
    ap number_or_0
    (find-append f live (new ∷ []) ∙ ap (λ b. option_or (find f live) (cond (b && (new.number == kept)) (Some new) None)) (le-ltb new.number n h) ∙ option_or_none (find f live))

-- the number that is found, or that of one more behind where that passes
either_number : (found : Option Linkable) (b : Bool) (new : Linkable) → ((x : Linkable) → found ≡ Some x → 1 ≤ x.number)
    → number_or_0 (option_or found (cond b (Some new) None)) ≡ cond (number_or_0 found == 0) (cond b new.number 0) (number_or_0 found)
either_number None true new above = refl
either_number None false new above = refl
either_number (Some x) b new above =
    let there : (x.number == 0) ≡ false = ne_eqb x.number 0 (λ e. let h : 1 ≤ x.number = above x refl in omega arith) in
    sym (ap (λ c. cond c (cond b new.number 0) x.number) there)

-- an area: its base, its slots without texts, and one more message behind them that has this parent
pub record HasNew (base : ℕ) (slots : List LoadedSlot) (new : Linkable) (parent : ℕ) : Type 0 where
  pub above : 1 ≤ base
  pub numbered : new.number ≡ base + length slots
  pub lower : parent ≤ new.number - 1
  pub of_new : parent_of (linkables_from base slots ++ new ∷ []) new ≡ parent

-- the first reply of a number then: the one before, or the new one where it answers the number
pub first_then : (base : ℕ) (slots : List LoadedSlot) (new : Linkable) (parent n : ℕ) → HasNew base slots new parent
    → first_reply_of (linkables_from base slots ++ new ∷ []) n
    ≡ cond (first_reply_of (linkables_from base slots) n == 0) (cond (parent == n) new.number 0) (first_reply_of (linkables_from base slots) n)
first_then base slots new parent n h =
    let L : List Linkable = linkables_from base slots in
    let f : Linkable → Bool = λ one. parent_of L one == n in
    let f' : Linkable → Bool = λ one. parent_of (L ++ new ∷ []) one == n in
    let same : find f' L ≡ find f L
    = same_found f' f base slots (λ one from to. ap (λ p. p == n) (parent_kept L new one.number one.replyid one.kept (omega (arith, h.numbered)))) in
    ap number_or_0 (find-append f' L (new ∷ []) ∙ ap (λ o. option_or o (cond (f' new) (Some new) None)) same)
    ∙ either_number (find f L) (f' new) new (λ x e. let from : base ≤ x.number = found_from f base slots x e in omega (arith, h.above))
    ∙ ap (λ p. cond (first_reply_of L n == 0) (cond (p == n) new.number 0) (first_reply_of L n)) h.of_new

-- the next reply then: the one before, or the new one where it answers the same
pub next_then : (base : ℕ) (slots : List LoadedSlot) (new : Linkable) (parent n p : ℕ) → HasNew base slots new parent → n < new.number → p ≢ 0
    → next_reply_of (linkables_from base slots ++ new ∷ []) n p
    ≡ cond (next_reply_of (linkables_from base slots) n p == 0) (cond (parent == p) new.number 0) (next_reply_of (linkables_from base slots) n p)
next_then base slots new parent n p h before some =
    let L : List Linkable = linkables_from base slots in
    let g : Linkable → Bool = λ one. nat_lt n one.number && (parent_of L one == p) in
    let g' : Linkable → Bool = λ one. nat_lt n one.number && (parent_of (L ++ new ∷ []) one == p) in
    let same : find g' L ≡ find g L
    = same_found g' g base slots
    (λ one from to. ap (λ q. nat_lt n one.number && (q == p)) (parent_kept L new one.number one.replyid one.kept (omega (arith, h.numbered)))) in
    let answers : g' new ≡ (parent == p) = ap (λ b. b && (parent_of (L ++ new ∷ []) new == p)) (lt-ltb n new.number before) ∙ ap (λ q. q == p) h.of_new in
    let there : (p == 0) ≡ false = ne_eqb p 0 some in
    rw there
    (ap number_or_0 (find-append g' L (new ∷ []) ∙ ap (λ o. option_or o (cond (g' new) (Some new) None)) same)
    ∙ either_number (find g L) (g' new) new (λ x e. let from : base ≤ x.number = found_from g base slots x e in omega (arith, h.above))
    ∙ ap (λ b. cond (number_or_0 (find g L) == 0) (cond b new.number 0) (number_or_0 (find g L))) answers)
