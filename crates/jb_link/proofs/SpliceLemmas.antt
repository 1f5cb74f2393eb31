-- A linked area stays linked under a post.
use Rattle.std.proofs.Common.{◌≡◌, ◌≢◌, ◌⊎◌, inl, inr, ℕ, zero, suc, ◌+◌, ◌<◌, nat_lt, Bool, true, false, ◌&&◌, ◌==◌, cond, List, [], ◌∷◌, ◌++◌, Some, find, map, length, slice_get, slice_set, refl, sym, ◌∙◌, ap, arith, ne_eqb, eq-eqb}
use Rattle.std.proofs.lemmas.Bool.{eqb-false}
use Rattle.jb_state.specs.Links.{Linkable, first_reply_of, linkable, next_reply_of, number_or_0, parent_of}
use Rattle.jb_state.specs.Live.{live_from}
use Rattle.jb_state.specs.State.{LiveMessage, SlotState, killed_message, live_message, no_message}
use Rattle.jb_state.specs.declared.loaded.LoadedMessage.{LoadedMessage}
use Rattle.jb_state.specs.declared.loaded.LoadedSlot.{LoadedSlot}
use Rattle.jb_state.specs.declared.loaded.LoadedSlot.TheVariants.{Live}
use Rattle.jb_state.specs.LiveSlots.{linkables_from}
use Rattle.jb_link.proofs.PostLemmas.{HasNew, first_then, next_then, unload, unloaded}

-- a number that is 0 or stays
same_if_zero : (a : ℕ) → cond (a == 0) 0 a ≡ a
same_if_zero zero = refl
same_if_zero (suc a) = ap (λ b. cond b 0 (suc a)) (ne_eqb (suc a) 0 (λ e. omega arith))

-- a number that is not 0 stays
same_if_some : (a b : ℕ) → a ≢ 0 → cond (a == 0) b a ≡ a
same_if_some a b some = ap (λ c. cond c b a) (ne_eqb a 0 some)

-- the first reply of a number stays, unless the new message is the first that answers it
pub first_unchanged : (base : ℕ) (slots : List LoadedSlot) (new : Linkable) (parent n : ℕ) → HasNew base slots new parent
    → (parent ≢ n) ⊎ (first_reply_of (linkables_from base slots) n ≢ 0)
    → first_reply_of (linkables_from base slots ++ new ∷ []) n ≡ first_reply_of (linkables_from base slots) n
first_unchanged base slots new parent n h (inl other) =
    first_then base slots new parent n h
    ∙ ap (λ b. cond (first_reply_of (linkables_from base slots) n == 0) (cond b new.number 0) (first_reply_of (linkables_from base slots) n)) (ne_eqb parent n other)
    ∙ same_if_zero (first_reply_of (linkables_from base slots) n)
first_unchanged base slots new parent n h (inr some) =
    first_then base slots new parent n h ∙ same_if_some (first_reply_of (linkables_from base slots) n) (cond (parent == n) new.number 0) some

-- it is the new one, where nothing answered the number
pub first_is_new : (base : ℕ) (slots : List LoadedSlot) (new : Linkable) (parent n : ℕ) → HasNew base slots new parent
    → parent ≡ n → first_reply_of (linkables_from base slots) n ≡ 0
    → first_reply_of (linkables_from base slots ++ new ∷ []) n ≡ new.number
first_is_new base slots new parent n h is none =
    first_then base slots new parent n h
    ∙ ap (λ b. cond (first_reply_of (linkables_from base slots) n == 0) (cond b new.number 0) (first_reply_of (linkables_from base slots) n)) (eq-eqb parent n is)
    ∙ ap (λ a. cond (a == 0) new.number a) none

-- the next reply stays, unless the new message is the next that answers the same
pub next_unchanged : (base : ℕ) (slots : List LoadedSlot) (new : Linkable) (parent n p : ℕ) → HasNew base slots new parent → n < new.number
    → (p ≡ 0) ⊎ ((parent ≢ p) ⊎ (next_reply_of (linkables_from base slots) n p ≢ 0))
    → next_reply_of (linkables_from base slots ++ new ∷ []) n p ≡ next_reply_of (linkables_from base slots) n p
next_unchanged base slots new parent n p h before why = by_parent (p == 0) refl why
  where
    L : List Linkable
    L = linkables_from base slots

    by_parent : (b : Bool) → (p == 0) ≡ b → (p ≡ 0) ⊎ ((parent ≢ p) ⊎ (next_reply_of L n p ≢ 0)) → next_reply_of (L ++ new ∷ []) n p ≡ next_reply_of L n p
    by_parent true e why =
        ap (λ b. cond b 0 (number_or_0 (find (λ one. nat_lt n one.number && (parent_of (L ++ new ∷ []) one == p)) (L ++ new ∷ [])))) e
        ∙ sym (ap (λ b. cond b 0 (number_or_0 (find (λ one. nat_lt n one.number && (parent_of L one == p)) L))) e)
    by_parent false e (inl none) = absurd (eqb-false p 0 e none)
    by_parent false e (inr (inl other)) =
        next_then base slots new parent n p h before (eqb-false p 0 e)
        ∙ ap (λ b. cond (next_reply_of L n p == 0) (cond b new.number 0) (next_reply_of L n p)) (ne_eqb parent p other)
        ∙ same_if_zero (next_reply_of L n p)
    by_parent false e (inr (inr some)) =
        next_then base slots new parent n p h before (eqb-false p 0 e) ∙ same_if_some (next_reply_of L n p) (cond (parent == p) new.number 0) some

-- it is the new one, where this was the last that answered
pub next_is_new : (base : ℕ) (slots : List LoadedSlot) (new : Linkable) (parent n p : ℕ) → HasNew base slots new parent → n < new.number → p ≢ 0
    → parent ≡ p → next_reply_of (linkables_from base slots) n p ≡ 0
    → next_reply_of (linkables_from base slots ++ new ∷ []) n p ≡ new.number
next_is_new base slots new parent n p h before some is none =
    next_then base slots new parent n p h before some
    ∙ ap (λ b. cond (next_reply_of (linkables_from base slots) n p == 0) (cond b new.number 0) (next_reply_of (linkables_from base slots) n p)) (eq-eqb parent p is)
    ∙ ap (λ a. cond (a == 0) new.number a) none

-- a place of a longer list is one of the list, or the last
pub end_or_before : (xs : List SlotState) (y s : SlotState) (k : ℕ) → slice_get (xs ++ y ∷ []) k ≡ Some s → (slice_get xs k ≡ Some s) ⊎ ((k ≡ length xs) × (y ≡ s))
end_or_before [] y s zero e = let is : y ≡ s = cc in inr (refl, is)
end_or_before [] y s (suc k) e = cc
end_or_before (x ∷ xs) y s zero e = inl e
end_or_before (x ∷ xs) y s (suc k) e = elim (end_or_before xs y s k e) [ inl h ↦ inl h | inr (last, is) ↦ inr (ap suc last, is) ]

-- a place of a list with one replaced is that one, or as before
pub set_or_before : (xs : List SlotState) (j : ℕ) (y s : SlotState) (k : ℕ) → slice_get (slice_set xs j y) k ≡ Some s → ((slice_get xs k ≡ Some s) × (k ≢ j)) ⊎ ((k ≡ j) × (y ≡ s))
set_or_before [] j y s k e = cc
set_or_before (x ∷ xs) zero y s zero e = let is : y ≡ s = cc in inr (refl, is)
set_or_before (x ∷ xs) zero y s (suc k) e = inl (e, λ h. omega arith)
set_or_before (x ∷ xs) (suc j) y s zero e = inl (e, λ h. omega arith)
set_or_before (x ∷ xs) (suc j) y s (suc k) e =
    elim (set_or_before xs j y s k e) [
      | inl (h, apart) ↦ inl (h, λ same. let less : k ≡ j = omega arith in apart less)
      | inr (here, is) ↦ inr (ap suc here, is)
    ]

-- a live message without its text comes from one with it
pub from_unloaded : (k : ℕ) (slots : List SlotState) (loaded : LoadedMessage) → slice_get (map unloaded slots) k ≡ Some (Live loaded)
    → (message : LiveMessage) × (slice_get slots k ≡ Some (live_message message))
from_unloaded k [] loaded e = cc
from_unloaded zero (no_message ∷ slots) loaded e = cc
from_unloaded zero (killed_message ∷ slots) loaded e = cc
from_unloaded zero (live_message message ∷ slots) loaded e = (message, refl)
from_unloaded (suc k) (slot ∷ slots) loaded e = from_unloaded k slots loaded e

-- and one with its text goes to one without
pub to_unloaded : (k : ℕ) (slots : List SlotState) (message : LiveMessage) → slice_get slots k ≡ Some (live_message message) → slice_get (map unloaded slots) k ≡ Some (Live (unload message))
to_unloaded k [] message e = cc
to_unloaded zero (slot ∷ slots) message e = let is : slot ≡ live_message message = cc in ap (λ s. Some (unloaded s)) is
to_unloaded (suc k) (slot ∷ slots) message e = to_unloaded k slots message e

-- another link to replies changes nothing on which the links rest
pub linkables_set : (k base : ℕ) (slots : List SlotState) (message changed : LiveMessage) → slice_get slots k ≡ Some (live_message message)
    → ((n : ℕ) → linkable (record { number = n; message = changed }) ≡ linkable (record { number = n; message = message }))
    → map linkable (live_from base (slice_set slots k (live_message changed))) ≡ map linkable (live_from base slots)
linkables_set k base [] message changed at same = cc
linkables_set zero base (no_message ∷ slots) message changed at same = cc
linkables_set zero base (killed_message ∷ slots) message changed at same = cc
linkables_set zero base (live_message first ∷ slots) message changed at same =
    let is : first ≡ message = cc in
    ap (λ one. one ∷ map linkable (live_from (base + 1) slots)) (same base ∙ ap (λ m. linkable (record { number = base; message = m })) (sym is))
linkables_set (suc k) base (no_message ∷ slots) message changed at same = linkables_set k (base + 1) slots message changed at same
linkables_set (suc k) base (killed_message ∷ slots) message changed at same = linkables_set k (base + 1) slots message changed at same
linkables_set (suc k) base (live_message first ∷ slots) message changed at same =
    ap (λ rest. linkable (record { number = base; message = first }) ∷ rest) (linkables_set k (base + 1) slots message changed at same)
