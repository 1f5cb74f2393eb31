-- The messages of a linked area keep their links when one is posted.
use Rattle.std.proofs.Common.{◌≡◌, ◌≢◌, ◌⊎◌, inl, inr, ℕ, zero, suc, ◌+◌, ◌-◌, ◌<◌, ◌≤◌, nat_lt, Bool, true, false, ◌&&◌, ◌==◌, cond, List, [], ◌∷◌, ◌++◌, All, reverse, Option, Some, None, find, map, length, slice_get, slice_set, refl, sym, ◌∙◌, ap, arith, subst, ne_eqb, eq-eqb, eqb-true, lt-ltb, le-ltb}
use Rattle.std.proofs.lemmas.Bool.{eqb-false, false≢true}
use Rattle.std.proofs.lemmas.List.{length-map, map-append}
use Rattle.std.proofs.lemmas.List.Folds.{find-append}
use Rattle.std.proofs.lemmas.Option.{slice_get_within}
use Rattle.std.specs.Option.{option_or}
use Rattle.jb_state.specs.Links.{HasItsLinks, Linkable, first_reply_of, linkable, next_reply_of, number_or_0, parent_for, parent_of}
use Rattle.jb_state.specs.Live.{live_from}
use Rattle.jb_state.specs.Message.{replyid_of}
use Rattle.jb_state.specs.Posted.{with_first_reply, with_next_reply}
use Rattle.jb_state.specs.State.{LiveMessage, SlotState, live_message}
use Rattle.jb_state.specs.declared.loaded.LoadedMessage.{LoadedMessage}
use Rattle.jb_state.specs.declared.loaded.LoadedSlot.{LoadedSlot}
use Rattle.jb_state.specs.declared.loaded.LoadedSlot.TheVariants.{Live}
use Rattle.jb_state.specs.LiveSlots.{linkables_from, loaded_linkable}
use Rattle.jb_link.proofs.EachLemmas.{Each, each_at, each_from, each_of_reverse, each_reversed, each_then, found_each, none_passes, nothing_found}
use Rattle.jb_link.proofs.LiveLemmas.{linkables_from-append}
use Rattle.jb_link.proofs.PlanLemmas.{parent_lower}
use Rattle.jb_link.proofs.PostLemmas.{HasNew, all_from_places, linkables_unloaded, parent_kept, place_from_all, unload, unloaded}
use Rattle.jb_link.proofs.RangeLemmas.{never_found, same_found}
use Rattle.jb_link.proofs.ReplyLemmas.{found_kept, kept_if_live}
use Rattle.jb_link.proofs.SpliceLemmas.{end_or_before, first_is_new, first_unchanged, next_is_new, next_unchanged, set_or_before, to_unloaded}

-- on what the links rest before the post
abbrev pub before : ℕ → List SlotState → List Linkable
before base slots = linkables_from base (map unloaded slots)

-- the posted message, with the next number
abbrev pub posted : ℕ → List SlotState → LiveMessage → Linkable
posted base slots message = linkable (record { number = base + length slots; message = message })

-- on what they rest after it
abbrev pub after : ℕ → List SlotState → LiveMessage → List Linkable
after base slots message = before base slots ++ posted base slots message ∷ []

-- a message is posted to a linked area
pub record IsPosting (base : ℕ) (slots : List SlotState) (message : LiveMessage) (parent kept : ℕ) : Type 0 where
  pub above : 1 ≤ base
  pub linked : All (HasItsLinks (before base slots)) (live_from base slots)
  pub answers : message.head.reply_to ≡ parent
  pub found : parent ≡ parent_for (before base slots) (base + length slots) (replyid_of message.subfields) kept
  pub no_first : message.head.reply_first ≡ 0
  pub no_next : message.head.reply_next ≡ 0

-- a parent is found again, where it is kept
pub parent_again : (live : List Linkable) (n : ℕ) (reply : Option (List ℕ)) (kept parent : ℕ) → parent ≡ parent_for live n reply kept → parent_for live n reply parent ≡ parent
parent_again live n (Some id) kept parent e = sym e
parent_again live n None kept parent e =
    elim (found_kept n kept live) [
      | inl none ↦
          (let zero_parent : parent ≡ 0 = e ∙ none in
          elim (found_kept n parent live) [ inl zero_again ↦ zero_again ∙ sym zero_parent | inr again ↦ again ])
      | inr same ↦
          (let is : parent ≡ kept = e ∙ same in
          ap (kept_if_live live n) is ∙ sym e)
    ]

-- what the new message is
has_new : (base : ℕ) (slots : List SlotState) (message : LiveMessage) (parent kept : ℕ) → IsPosting base slots message parent kept
    → HasNew base (map unloaded slots) (posted base slots message) parent
has_new base slots message parent kept h = record {
  above = h.above;
  numbered = ap (λ n. base + n) (sym (length-map slots unloaded));
  lower = subst (λ (p : ℕ). p ≤ base + length slots - 1) (sym h.found) (parent_lower (before base slots) (base + length slots) (replyid_of message.subfields) kept);
  of_new =
      parent_kept (before base slots) (posted base slots message) (base + length slots) (replyid_of message.subfields) message.head.reply_to (omega arith)
      ∙ ap (parent_for (before base slots) (base + length slots) (replyid_of message.subfields)) h.answers
      ∙ parent_again (before base slots) (base + length slots) (replyid_of message.subfields) kept parent h.found;
}

-- the links that a message at a place had
old_links : (base : ℕ) (slots : List SlotState) (message : LiveMessage) (parent kept : ℕ) → IsPosting base slots message parent kept
    → (k : ℕ) (m : LiveMessage) → slice_get slots k ≡ Some (live_message m) → HasItsLinks (before base slots) (record { number = base + k; message = m })
old_links base slots message parent kept h k m at = place_from_all (HasItsLinks (before base slots)) k base slots m h.linked at

-- its parent stays
parent_stays : (base : ℕ) (slots : List SlotState) (message : LiveMessage) (k : ℕ) (m : LiveMessage) → slice_get slots k ≡ Some (live_message m)
    → parent_of (after base slots message) (linkable (record { number = base + k; message = m })) ≡ parent_of (before base slots) (linkable (record { number = base + k; message = m }))
parent_stays base slots message k m at =
    let within : k < length slots = slice_get_within slots k (live_message m) at in
    parent_kept (before base slots) (posted base slots message) (base + k) (replyid_of m.subfields) m.head.reply_to (omega arith)

-- a message that is not changed keeps its links, where the new one is neither its first reply nor next behind it
kept_links : (base : ℕ) (slots : List SlotState) (message : LiveMessage) (parent kept : ℕ) → IsPosting base slots message parent kept
    → (k : ℕ) (m : LiveMessage) → slice_get slots k ≡ Some (live_message m)
    → (parent ≢ base + k) ⊎ (first_reply_of (before base slots) (base + k) ≢ 0)
    → (parent_of (before base slots) (linkable (record { number = base + k; message = m })) ≡ 0)
    ⊎ ((parent ≢ parent_of (before base slots) (linkable (record { number = base + k; message = m })))
    ⊎ (next_reply_of (before base slots) (base + k) (parent_of (before base slots) (linkable (record { number = base + k; message = m }))) ≢ 0))
    → HasItsLinks (after base slots message) (record { number = base + k; message = m })
kept_links base slots message parent kept h k m at not_first not_next =
    let U : List LoadedSlot = map unloaded slots in
    let new : Linkable = posted base slots message in
    let p : ℕ = parent_of (before base slots) (linkable (record { number = base + k; message = m })) in
    let old : HasItsLinks (before base slots) (record { number = base + k; message = m }) = old_links base slots message parent kept h k m at in
    let is_new : HasNew base U new parent = has_new base slots message parent kept h in
    let within : k < length slots = slice_get_within slots k (live_message m) at in
    let same : parent_of (after base slots message) (linkable (record { number = base + k; message = m })) ≡ p = parent_stays base slots message k m at in
    record {
      reply_to = old.reply_to ∙ sym same;
      reply_first = old.reply_first ∙ sym (first_unchanged base U new parent (base + k) is_new not_first);
      reply_next =
          old.reply_next ∙ sym (next_unchanged base U new parent (base + k) p is_new (omega arith) not_next)
          ∙ ap (next_reply_of (after base slots message) (base + k)) (sym same);
    }

-- the new message has its links
new_links : (base : ℕ) (slots : List SlotState) (message : LiveMessage) (parent kept : ℕ) → IsPosting base slots message parent kept
    → HasItsLinks (after base slots message) (record { number = base + length slots; message = message })
new_links base slots message parent kept h =
    let U : List LoadedSlot = map unloaded slots in
    let L : List Linkable = before base slots in
    let new : Linkable = posted base slots message in
    let is_new : HasNew base U new parent = has_new base slots message parent kept h in
    let long : length U ≡ length slots = length-map slots unloaded in
    let n : ℕ = base + length slots in
    let none_before : first_reply_of L n ≡ 0
    = ap number_or_0 (same_found (λ one. parent_of L one == n) (λ _. false) base U
    (λ x from to.
    let lower : parent_of L x ≤ x.number - 1 = parent_lower L x.number x.replyid x.kept in
    ne_eqb (parent_of L x) n (λ e. omega (arith, h.above))) ∙ never_found L) in
    let g : Linkable → Bool = λ one. nat_lt n one.number && (parent_of (after base slots message) one == parent) in
    let none_behind : find g (after base slots message) ≡ None
    = find-append g L (new ∷ [])
    ∙ ap (λ o. option_or o (find g (new ∷ []))) (same_found g (λ _. false) base U
    (λ x from to. ap (λ b. b && (parent_of (after base slots message) x == parent)) (le-ltb n x.number (omega arith))) ∙ never_found L)
    ∙ ap (λ b. cond (b && (parent_of (after base slots message) new == parent)) (Some new) None) (le-ltb n n (omega arith)) in
    record {
      reply_to = h.answers ∙ sym is_new.of_new;
      reply_first = h.no_first ∙ sym (first_unchanged base U new parent n is_new (inl (λ e. omega (arith, is_new.lower, h.above))) ∙ none_before);
      reply_next =
          h.no_next ∙ sym (ap (next_reply_of (after base slots message) n) is_new.of_new ∙ next_case (parent == 0) (find g (after base slots message)) none_behind);
    }
  where
    next_case : (b : Bool) (found : Option Linkable) → found ≡ None → cond b 0 (number_or_0 found) ≡ 0
    next_case true found e = refl
    next_case false found e = ap number_or_0 e

-- all messages have their links, where those before the new one do
pub all_links : (base : ℕ) (slots spliced : List SlotState) (message : LiveMessage) (parent kept : ℕ) → IsPosting base slots message parent kept
    → length spliced ≡ length slots → map linkable (live_from base spliced) ≡ before base slots
    → ((k : ℕ) (m : LiveMessage) → slice_get spliced k ≡ Some (live_message m) → HasItsLinks (after base slots message) (record { number = base + k; message = m }))
    → All (HasItsLinks (map linkable (live_from base (spliced ++ live_message message ∷ [])))) (live_from base (spliced ++ live_message message ∷ []))
all_links base slots spliced message parent kept h long same each =
    let live_is : map linkable (live_from base (spliced ++ live_message message ∷ [])) ≡ after base slots message
    = linkables_unloaded base (spliced ++ live_message message ∷ []) ∙ ap (linkables_from base) (map-append unloaded spliced (live_message message ∷ []))
    ∙ linkables_from-append base (map unloaded spliced) (Live (unload message) ∷ [])
    ∙ ap (λ n. linkables_from base (map unloaded spliced) ++ loaded_linkable (base + n) (unload message) ∷ []) (length-map spliced unloaded ∙ long)
    ∙ ap (λ l. l ++ posted base slots message ∷ []) (sym (linkables_unloaded base spliced) ∙ same) in
    let Goal : List Linkable → Type 0 = λ live. All (HasItsLinks live) (live_from base (spliced ++ live_message message ∷ [])) in
    subst Goal (sym live_is)
    (all_from_places (HasItsLinks (after base slots message)) base (spliced ++ live_message message ∷ [])
    (λ k m at. elim (end_or_before spliced (live_message message) (live_message m) k at) [
      | inl at_before ↦ each k m at_before
      | inr (last, is) ↦
          (let is_message : message ≡ m = cc in
          let here : base + length slots ≡ base + k = omega arith in
          subst (λ (n : ℕ). HasItsLinks (after base slots message) (record { number = n; message = m })) here
          (subst (λ (x : LiveMessage). HasItsLinks (after base slots message) (record { number = base + length slots; message = x })) is_message
          (new_links base slots message parent kept h)))
    ]))

-- a number is 0 or not
pub zero_or_some : (a : ℕ) → (a ≡ 0) ⊎ (a ≢ 0)
zero_or_some zero = inl refl
zero_or_some (suc a) = inr (λ e. omega arith)

-- where one at a place passes, a number is found
found_some : (f : Linkable → Bool) (base k : ℕ) (slots : List LoadedSlot) (message : LoadedMessage) → 1 ≤ base → slice_get slots k ≡ Some (Live message)
    → f (loaded_linkable (base + k) message) ≡ true → number_or_0 (find f (linkables_from base slots)) ≢ 0
found_some f base k slots message above at passes = by_found (find f (linkables_from base slots)) refl
  where
    by_found : (found : Option Linkable) → find f (linkables_from base slots) ≡ found → number_or_0 (find f (linkables_from base slots)) ≢ 0
    by_found None e = λ zero_number.
        false≢true (sym (each_at (λ x. f x ≡ false) k base slots message (none_passes f (linkables_from base slots) e) at) ∙ passes)
    by_found (Some x) e = λ zero_number.
        let from : base ≤ x.number = (found_each (λ y. base ≤ y.number) f (linkables_from base slots) x (each_from base slots) e).0 in
        let number : x.number ≡ 0 = sym (ap number_or_0 e) ∙ zero_number in
        omega arith

-- where no number is found from the end, nothing is
none_from_zero : (f : Linkable → Bool) (base : ℕ) (slots : List LoadedSlot) → 1 ≤ base → number_or_0 (find f (reverse (linkables_from base slots))) ≡ 0
    → find f (reverse (linkables_from base slots)) ≡ None
none_from_zero f base slots above zero_number = by_found (find f (reverse (linkables_from base slots))) refl
  where
    by_found : (found : Option Linkable) → find f (reverse (linkables_from base slots)) ≡ found → find f (reverse (linkables_from base slots)) ≡ None
    by_found None e = e
    by_found (Some x) e =
        let from : base ≤ x.number
        = (found_each (λ y. base ≤ y.number) f (reverse (linkables_from base slots)) x (each_reversed (λ y. base ≤ y.number) (linkables_from base slots) (each_from base slots)) e).0 in
        let number : x.number ≡ 0 = sym (ap number_or_0 e) ∙ zero_number in
        absurd (omega arith)

-- without a parent the others keep their links
pub kept_without_parent : (base : ℕ) (slots : List SlotState) (message : LiveMessage) (parent kept : ℕ) → IsPosting base slots message parent kept → parent ≡ 0
    → (k : ℕ) (m : LiveMessage) → slice_get slots k ≡ Some (live_message m) → HasItsLinks (after base slots message) (record { number = base + k; message = m })
kept_without_parent base slots message parent kept h none k m at =
    kept_links base slots message parent kept h k m at (inl (λ e. omega (arith, h.above)))
    (elim (zero_or_some (parent_of (before base slots) (linkable (record { number = base + k; message = m })))) [
      | inl zero_parent ↦ inl zero_parent
      | inr some ↦ inr (inl (λ e. some (sym e ∙ none)))
    ])

-- a parent without replies names the new one as its first
pub kept_with_first : (base : ℕ) (slots : List SlotState) (message : LiveMessage) (parent kept j : ℕ) (t : LiveMessage) → IsPosting base slots message parent kept
    → slice_get slots j ≡ Some (live_message t) → parent ≡ base + j
    → number_or_0 (find (λ one. parent_of (before base slots) one == parent) (reverse (before base slots))) ≡ 0
    → (k : ℕ) (m : LiveMessage) → slice_get (slice_set slots j (live_message (with_first_reply (base + length slots) t))) k ≡ Some (live_message m)
    → HasItsLinks (after base slots message) (record { number = base + k; message = m })
kept_with_first base slots message parent kept j t h there numbered none k m at =
    elim (set_or_before slots j (live_message (with_first_reply (base + length slots) t)) (live_message m) k at) [
      | inl (at_before, apart) ↦
          kept_links base slots message parent kept h k m at_before (inl (λ e. apart (same_place k e))) (inr (inl (λ e. no_child k m at_before (sym e))))
      | inr (here, is) ↦ with_first k m here is
    ]
  where
    U : List LoadedSlot
    U = map unloaded slots

    L : List Linkable
    L = before base slots

    f : Linkable → Bool
    f one = parent_of L one == parent

    same_place : (k : ℕ) → parent ≡ base + k → k ≡ j
    same_place k e = omega arith

    none_of_them : Each (λ x. f x ≡ false) L
    none_of_them = each_of_reverse (λ x. f x ≡ false) L (none_passes f (reverse L) (none_from_zero f base U h.above none))

    no_child : (k : ℕ) (m : LiveMessage) → slice_get slots k ≡ Some (live_message m) → parent_of L (linkable (record { number = base + k; message = m })) ≢ parent
    no_child k m at = eqb-false (parent_of L (linkable (record { number = base + k; message = m }))) parent (each_at (λ x. f x ≡ false) k base U (unload m) none_of_them (to_unloaded k slots m at))

    with_first : (k : ℕ) (m : LiveMessage) → k ≡ j → live_message (with_first_reply (base + length slots) t) ≡ live_message m
        → HasItsLinks (after base slots message) (record { number = base + k; message = m })
    with_first k m here is =
        let is_message : with_first_reply (base + length slots) t ≡ m = cc in
        let new : Linkable = posted base slots message in
        let is_new : HasNew base U new parent = has_new base slots message parent kept h in
        let old : HasItsLinks L (record { number = base + j; message = t }) = old_links base slots message parent kept h j t there in
        let within : j < length slots = slice_get_within slots j (live_message t) there in
        let p : ℕ = parent_of L (linkable (record { number = base + j; message = t })) in
        let lower : p ≤ base + j - 1 = parent_lower L (base + j) (replyid_of t.subfields) t.head.reply_to in
        let stays : parent_of (after base slots message) (linkable (record { number = base + j; message = t })) ≡ p = parent_stays base slots message j t there in
        let none_first : first_reply_of L (base + j) ≡ 0 = ap (first_reply_of L) (sym numbered) ∙ ap number_or_0 (nothing_found f L none_of_them) in
        let value : HasItsLinks (after base slots message) (record { number = base + j; message = with_first_reply (base + length slots) t })
        = record {
          reply_to = old.reply_to ∙ sym stays;
          reply_first = sym (first_is_new base U new parent (base + j) is_new numbered none_first);
          reply_next =
              old.reply_next ∙ sym (next_unchanged base U new parent (base + j) p is_new (omega arith) (inr (inl (λ e. omega (arith, h.above)))))
              ∙ ap (next_reply_of (after base slots message) (base + j)) (sym stays);
        } in
        subst (λ (n : ℕ). HasItsLinks (after base slots message) (record { number = base + n; message = m })) (sym here)
        (subst (λ (x : LiveMessage). HasItsLinks (after base slots message) (record { number = base + j; message = x })) is_message value)

-- the last reply to a parent names the new one as the next
pub kept_with_next : (base : ℕ) (slots : List SlotState) (message : LiveMessage) (parent kept j : ℕ) (t : LiveMessage) → IsPosting base slots message parent kept → parent ≢ 0
    → slice_get slots j ≡ Some (live_message t)
    → parent_of (before base slots) (linkable (record { number = base + j; message = t })) ≡ parent
    → Each (λ x. (parent_of (before base slots) x == parent) ≡ true → x.number ≤ base + j) (before base slots)
    → (k : ℕ) (m : LiveMessage) → slice_get (slice_set slots j (live_message (with_next_reply (base + length slots) t))) k ≡ Some (live_message m)
    → HasItsLinks (after base slots message) (record { number = base + k; message = m })
kept_with_next base slots message parent kept j t h some there child greatest k m at =
    elim (set_or_before slots j (live_message (with_next_reply (base + length slots) t)) (live_message m) k at) [
      | inl (at_before, apart) ↦
          kept_links base slots message parent kept h k m at_before
          (elim (zero_or_some (first_reply_of L (base + k))) [ inl none ↦ inl (λ e. first_there (ap (first_reply_of L) e ∙ none)) | inr first ↦ inr first ])
          (next_of_others k m at_before apart)
      | inr (here, is) ↦ with_next k m here is
    ]
  where
    U : List LoadedSlot
    U = map unloaded slots

    L : List Linkable
    L = before base slots

    f : Linkable → Bool
    f one = parent_of L one == parent

    passes : f (loaded_linkable (base + j) (unload t)) ≡ true
    passes = eq-eqb (parent_of L (linkable (record { number = base + j; message = t }))) parent child

    first_there : first_reply_of L parent ≢ 0
    first_there = found_some f base j U (unload t) h.above (to_unloaded j slots t there) passes

    no_parent_test : (parent == 0) ≡ false
    no_parent_test = ne_eqb parent 0 some

    next_there : (n : ℕ) → n < base + j → next_reply_of L n parent ≢ 0
    next_there n less = λ none.
        found_some (λ one. nat_lt n one.number && f one) base j U (unload t) h.above (to_unloaded j slots t there)
        (ap (λ b. b && f (loaded_linkable (base + j) (unload t))) (lt-ltb n (base + j) less) ∙ passes)
        (sym (ap (λ b. cond b 0 (number_or_0 (find (λ one. nat_lt n one.number && f one) L))) no_parent_test) ∙ none)

    next_of_others : (k : ℕ) (m : LiveMessage) → slice_get slots k ≡ Some (live_message m) → k ≢ j
        → (parent_of L (linkable (record { number = base + k; message = m })) ≡ 0)
        ⊎ ((parent ≢ parent_of L (linkable (record { number = base + k; message = m })))
        ⊎ (next_reply_of L (base + k) (parent_of L (linkable (record { number = base + k; message = m }))) ≢ 0))
    next_of_others k m at apart = by_parent (f (loaded_linkable (base + k) (unload m))) refl
      where
        by_parent : (b : Bool) → f (loaded_linkable (base + k) (unload m)) ≡ b
            → (parent_of L (linkable (record { number = base + k; message = m })) ≡ 0)
            ⊎ ((parent ≢ parent_of L (linkable (record { number = base + k; message = m })))
            ⊎ (next_reply_of L (base + k) (parent_of L (linkable (record { number = base + k; message = m }))) ≢ 0))
        by_parent false e = inr (inl (λ same. eqb-false (parent_of L (linkable (record { number = base + k; message = m }))) parent e (sym same)))
        by_parent true e =
            let same : parent_of L (linkable (record { number = base + k; message = m })) ≡ parent = eqb-true (parent_of L (linkable (record { number = base + k; message = m }))) parent e in
            let most : base + k ≤ base + j = each_at (λ x. f x ≡ true → x.number ≤ base + j) k base U (unload m) greatest (to_unloaded k slots m at) e in
            inr (inr (λ none. next_there (base + k) (omega arith) (ap (next_reply_of L (base + k)) (sym same) ∙ none)))

    none_next : next_reply_of L (base + j) parent ≡ 0
    none_next =
        ap (λ b. cond b 0 (number_or_0 (find (λ one. nat_lt (base + j) one.number && f one) L))) no_parent_test
        ∙ ap number_or_0 (nothing_found (λ one. nat_lt (base + j) one.number && f one) L
        (each_then (λ x. f x ≡ true → x.number ≤ base + j) (λ x. (nat_lt (base + j) x.number && f x) ≡ false) (λ x most. past x (f x) refl most) L greatest))
      where
        past : (x : Linkable) (b : Bool) → f x ≡ b → (f x ≡ true → x.number ≤ base + j) → (nat_lt (base + j) x.number && f x) ≡ false
        past x true e most = ap (λ b. b && f x) (le-ltb (base + j) x.number (most e))
        past x false e most = ap (λ b. nat_lt (base + j) x.number && b) e ∙ and_false (nat_lt (base + j) x.number)
          where
            and_false : (b : Bool) → (b && false) ≡ false
            and_false true = refl
            and_false false = refl

    with_next : (k : ℕ) (m : LiveMessage) → k ≡ j → live_message (with_next_reply (base + length slots) t) ≡ live_message m
        → HasItsLinks (after base slots message) (record { number = base + k; message = m })
    with_next k m here is =
        let is_message : with_next_reply (base + length slots) t ≡ m = cc in
        let new : Linkable = posted base slots message in
        let is_new : HasNew base U new parent = has_new base slots message parent kept h in
        let old : HasItsLinks L (record { number = base + j; message = t }) = old_links base slots message parent kept h j t there in
        let within : j < length slots = slice_get_within slots j (live_message t) there in
        let lower : parent_of L (linkable (record { number = base + j; message = t })) ≤ base + j - 1 = parent_lower L (base + j) (replyid_of t.subfields) t.head.reply_to in
        let stays : parent_of (after base slots message) (linkable (record { number = base + j; message = t })) ≡ parent_of L (linkable (record { number = base + j; message = t }))
        = parent_stays base slots message j t there in
        let value : HasItsLinks (after base slots message) (record { number = base + j; message = with_next_reply (base + length slots) t })
        = record {
          reply_to = old.reply_to ∙ sym stays;
          reply_first = old.reply_first ∙ sym (first_unchanged base U new parent (base + j) is_new (inl (λ e. omega (arith, h.above))));
          reply_next =
              sym (next_is_new base U new parent (base + j) parent is_new (omega arith) some refl none_next)
              ∙ ap (next_reply_of (after base slots message) (base + j)) (sym child ∙ sym stays);
        } in
        subst (λ (n : ℕ). HasItsLinks (after base slots message) (record { number = base + n; message = m })) (sym here)
        (subst (λ (x : LiveMessage). HasItsLinks (after base slots message) (record { number = base + j; message = x })) is_message value)
