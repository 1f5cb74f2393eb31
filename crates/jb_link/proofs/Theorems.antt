-- A linked area stays linked under a post.
use Rattle.std.proofs.Common.{◌≡◌, ◌≢◌, ◌⊎◌, inl, inr, ℕ, ◌+◌, ◌-◌, ◌≤◌, nat_lt, Bool, true, false, ◌&&◌, ◌==◌, cond, List, [], ◌∷◌, ◌++◌, All, reverse, Option, Some, None, find, map, slice_get, slice_set, length-set, refl, sym, ◌∙◌, ap, arith, subst, ne_eqb, eq-eqb, eqb-true, le-ltb, option_map}
use Rattle.jb_state.specs.Links.{HasItsLinks, IsLinked, Linkable, is_id, last_reply_of, linkable, linkables_of, number_or_0, parent_for, parent_of}
use Rattle.jb_state.specs.Live.{live_from, live_of, message_at}
use Rattle.jb_state.specs.Message.{replyid_of}
use Rattle.jb_state.specs.Posted.{posted_state, slots_with, spliced_slots, with_first_reply, with_next_reply}
use Rattle.jb_state.specs.State.{AreaState, LiveMessage, SlotState, live_message, next_number}
use Rattle.jb_state.specs.declared.loaded.LoadedSlot.{LoadedSlot}
use Rattle.jb_state.specs.declared.loaded.LoadedSlot.TheVariants.{Live}
use Rattle.jb_state.specs.LiveSlots.{loaded_linkable}
use Rattle.jb_link.proofs.AreaLemmas.{IsOf}
use Rattle.jb_link.proofs.EachLemmas.{Each, each_is_one, each_reversed, each_then, found_each, greatest_found}
use Rattle.jb_link.proofs.LiveLemmas.{StandsAt, found_stands}
use Rattle.jb_link.proofs.PostLemmas.{linkables_unloaded, unload, unloaded}
use Rattle.jb_link.proofs.SpliceLemmas.{from_unloaded, linkables_set, to_unloaded}
use Rattle.jb_link.proofs.PostingLemmas.{IsPosting, all_links, before, kept_with_first, kept_with_next, kept_without_parent, zero_or_some}

-- a live message at a place is the one with its number
message_there : (state : AreaState) (n j : ℕ) (t : LiveMessage) → n ≡ state.base + j → slice_get state.slots j ≡ Some (live_message t) → message_at state n ≡ Some t
message_there state n j t e at =
    let above : nat_lt n state.base ≡ false = le-ltb n state.base (omega arith) in
    let place : n - state.base ≡ j = omega arith in
    ap (λ b. cond b None (live_of (slice_get state.slots (n - state.base)))) above ∙ ap (λ k. live_of (slice_get state.slots k)) place ∙ ap live_of at

-- what is put in its place, put there
put_there : (state : AreaState) (n j : ℕ) (t : LiveMessage) (change : LiveMessage → LiveMessage) → n ≡ state.base + j → slice_get state.slots j ≡ Some (live_message t)
    → slots_with state n (option_map change (message_at state n)) ≡ slice_set state.slots j (live_message (change t))
put_there state n j t change e at =
    let place : n - state.base ≡ j = omega arith in
    ap (λ o. slots_with state n (option_map change o)) (message_there state n j t e at) ∙ ap (λ k. slice_set state.slots k (live_message (change t))) place

-- the area with the message at its end is linked, whatever of its slots the new reply changes
links_after : (state : AreaState) (message : LiveMessage) (parent kept : ℕ) → IsPosting state.base state.slots message parent kept
    → All (HasItsLinks (map linkable (live_from state.base (spliced_slots state parent (next_number state) ++ live_message message ∷ []))))
    (live_from state.base (spliced_slots state parent (next_number state) ++ live_message message ∷ []))
links_after state message parent kept h = by_parent (zero_or_some parent)
  where
    L : List Linkable
    L = before state.base state.slots

    N : ℕ
    N = next_number state

    live_is : linkables_of state ≡ L
    live_is = linkables_unloaded state.base state.slots

    last : ℕ
    last = last_reply_of (linkables_of state) parent

    named : List SlotState
    named = slots_with state parent (option_map (with_first_reply N) (message_at state parent))

    chained : List SlotState
    chained = slots_with state last (option_map (with_next_reply N) (message_at state last))

    Linked : List SlotState → Type 0
    Linked spliced = All (HasItsLinks (map linkable (live_from state.base (spliced ++ live_message message ∷ [])))) (live_from state.base (spliced ++ live_message message ∷ []))

    f : Linkable → Bool
    f one = parent_of L one == parent

    U : List LoadedSlot
    U = map unloaded state.slots

    stands_as : (test : Linkable → Bool) → parent ≡ number_or_0 (find test L) → parent ≢ 0 → StandsAt state.base parent U
    stands_as test is some =
        elim (found_stands test state.base U) [
          | inl none ↦ absurd (some (is ∙ none))
          | inr there ↦ subst (λ (n : ℕ). StandsAt state.base n U) (sym is) there
        ]

    parent_stands : (reply : Option (List ℕ)) → parent ≡ parent_for L N reply kept → parent ≢ 0 → StandsAt state.base parent U
    parent_stands (Some id) is some = stands_as (λ one. nat_lt one.number N && is_id id one.msgid) is some
    parent_stands None is some = stands_as (λ one. nat_lt one.number N && (one.number == kept)) is some

    by_last : parent ≢ 0 → (found : Option Linkable) → find f (reverse L) ≡ found → Linked (spliced_slots state parent N)
    by_last some None e =
        let stands : StandsAt state.base parent U = parent_stands (replyid_of message.subfields) h.found some in
        let (t, at) = from_unloaded stands.place state.slots stands.message stands.at in
        let none_last : last ≡ 0 = ap (λ live. last_reply_of live parent) live_is ∙ ap number_or_0 e in
        let spliced : spliced_slots state parent N ≡ slice_set state.slots stands.place (live_message (with_first_reply N t))
        = ap (λ b. cond b state.slots (cond (last == 0) named chained)) (ne_eqb parent 0 some) ∙ ap (λ b. cond b named chained) (eq-eqb last 0 none_last)
        ∙ put_there state parent stands.place t (with_first_reply N) stands.numbered at in
        subst Linked (sym spliced)
        (all_links state.base state.slots (slice_set state.slots stands.place (live_message (with_first_reply N t))) message parent kept h
        (length-set state.slots stands.place (live_message (with_first_reply N t)))
        (linkables_set stands.place state.base state.slots t (with_first_reply N t) at (λ n. refl) ∙ live_is)
        (kept_with_first state.base state.slots message parent kept stands.place t h at stands.numbered (ap number_or_0 e)))
    by_last some (Some x) e =
        let (one, passes) = found_each (IsOf state.base U) f (reverse L) x (each_reversed (IsOf state.base U) L (each_is_one state.base U)) e in
        let (t, at) = from_unloaded one.place state.slots one.message one.at in
        let again : Some (Live one.message) ≡ Some (Live (unload t)) = sym one.at ∙ to_unloaded one.place state.slots t at in
        let same : one.message ≡ unload t = cc in
        let here : x ≡ linkable (record { number = state.base + one.place; message = t }) = one.is ∙ ap (loaded_linkable (state.base + one.place)) same in
        let number : x.number ≡ state.base + one.place = ap (λ (l : Linkable). l.number) here in
        let last_is : last ≡ state.base + one.place = ap (λ live. last_reply_of live parent) live_is ∙ ap number_or_0 e ∙ number in
        let some_last : last ≢ 0 = λ none. omega (arith, h.above) in
        let child : parent_of L (linkable (record { number = state.base + one.place; message = t })) ≡ parent = ap (parent_of L) (sym here) ∙ eqb-true (parent_of L x) parent passes in
        let greatest : Each (λ y. f y ≡ true → y.number ≤ state.base + one.place) L
        = each_then (λ y. f y ≡ true → y.number ≤ x.number) (λ y. f y ≡ true → y.number ≤ state.base + one.place)
        (λ y most pass. let least : y.number ≤ x.number = most pass in omega arith) L (greatest_found f state.base U x e) in
        let spliced : spliced_slots state parent N ≡ slice_set state.slots one.place (live_message (with_next_reply N t))
        = ap (λ b. cond b state.slots (cond (last == 0) named chained)) (ne_eqb parent 0 some) ∙ ap (λ b. cond b named chained) (ne_eqb last 0 some_last)
        ∙ put_there state last one.place t (with_next_reply N) last_is at in
        subst Linked (sym spliced)
        (all_links state.base state.slots (slice_set state.slots one.place (live_message (with_next_reply N t))) message parent kept h
        (length-set state.slots one.place (live_message (with_next_reply N t)))
        (linkables_set one.place state.base state.slots t (with_next_reply N t) at (λ n. refl) ∙ live_is)
        (kept_with_next state.base state.slots message parent kept one.place t h some at child greatest))

    by_parent : (parent ≡ 0) ⊎ (parent ≢ 0) → Linked (spliced_slots state parent N)
    by_parent (inl none) =
        let unchanged : spliced_slots state parent N ≡ state.slots = ap (λ b. cond b state.slots (cond (last == 0) named chained)) (eq-eqb parent 0 none) in
        subst Linked (sym unchanged)
        (all_links state.base state.slots state.slots message parent kept h refl live_is (kept_without_parent state.base state.slots message parent kept h none))
    by_parent (inr some) = by_last some (find f (reverse L)) refl

-- a linked area with a message posted to it is linked
pub posted_is_linked : (state : AreaState) (message : LiveMessage) (kept : ℕ) → 1 ≤ state.base → IsLinked state
    → message.head.reply_to ≡ parent_for (linkables_of state) (next_number state) (replyid_of message.subfields) kept
    → message.head.reply_first ≡ 0 → message.head.reply_next ≡ 0
    → IsLinked (posted_state state message)
posted_is_linked state message kept above linked found no_first no_next =
    let live_is : linkables_of state ≡ before state.base state.slots = linkables_unloaded state.base state.slots in
    let Goal : List Linkable → Type 0 = λ live. All (HasItsLinks live) (live_from state.base state.slots) in
    links_after state message message.head.reply_to kept (record {
      above = above;
      linked = subst Goal live_is linked;
      answers = refl;
      found = found ∙ ap (λ live. parent_for live (next_number state) (replyid_of message.subfields) kept) live_is;
      no_first = no_first;
      no_next = no_next;
    })
