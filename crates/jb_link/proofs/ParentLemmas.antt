-- The parents of messages by their places, and the ids that are met on the way.
use Rattle.std.proofs.Common.{◌≡◌, inl, inr, ℕ, ◌+◌, ◌-◌, ◌<◌, ◌≤◌, Bool, true, false, ◌&&◌, ◌==◌, cond, List, [], ◌∷◌, ◌++◌, Option, Some, None, find, length, take, slice_get, get_or, length-take, refl, sym, ◌∙◌, ap, arith, ne_eqb}
use Rattle.std.proofs.lemmas.Bool.{cases_lt}
use Rattle.std.proofs.lemmas.Grind.{common_steps, take_at_read}
use Rattle.std.proofs.lemmas.List.Folds.{find-append}
use Rattle.std.proofs.lemmas.Option.{get_or_from_slice_get, slice_get-get_or}
use Rattle.std.specs.Option.{option_map, option_or}
use Rattle.jb_state.specs.Links.{Linkable, is_id, number_or_0, parent_at, parent_for, parent_of, parent_or_0}
use Rattle.jb_state.specs.Message.{msgid_of, replyid_of}
use Rattle.jb_state.specs.Plan.{loaded_at}
use Rattle.jb_state.specs.declared.loaded.Loaded.{Loaded}
use Rattle.jb_state.specs.declared.loaded.LoadedMessage.{LoadedMessage}
use Rattle.jb_state.specs.declared.loaded.LoadedSlot.{LoadedSlot}
use Rattle.jb_state.specs.declared.loaded.LoadedSlot.TheVariants.{Empty, Killed, Live}
use Rattle.jb_link.specs.Ids.{HasLowest, KeepsLowest}
use Rattle.jb_link.specs.Parents.{AreParents}
use Rattle.jb_state.specs.LiveSlots.{linkables, linkables_from, loaded_linkable, message_in, msgid_in}
use Rattle.jb_link.proofs.AreaLemmas.{below_base, by_place}
use Rattle.jb_link.proofs.LiveLemmas.{find_below, find_numbered, linkable_in, linkables_from-append, none_numbered}
use Rattle.jb_link.proofs.EachLemmas.{found_from}

-- the parent at a place without a live message is 0
pub parent_of_no_message : (base k : ℕ) (slots : List LoadedSlot) (slot : LoadedSlot) → slice_get slots k ≡ Some slot → ((message : LoadedMessage) → slot ≡ Live message → ⊥)
    → 0 ≡ parent_at (linkables_from base slots) (base + k)
parent_of_no_message base k slots Empty at other = sym (ap (parent_or_0 (linkables_from base slots)) (find_numbered k base (base + k) slots refl ∙ ap (linkable_in (base + k)) at))
parent_of_no_message base k slots (Killed header_at) at other = sym (ap (parent_or_0 (linkables_from base slots)) (find_numbered k base (base + k) slots refl ∙ ap (linkable_in (base + k)) at))
parent_of_no_message base k slots (Live message) at other = absurd (other message refl)

-- the parent at the place of a live message is its parent
pub parent_of_message : (base k : ℕ) (slots : List LoadedSlot) (message : LoadedMessage) → slice_get slots k ≡ Some (Live message)
    → parent_at (linkables_from base slots) (base + k) ≡ parent_of (linkables_from base slots) (loaded_linkable (base + k) message)
parent_of_message base k slots message at = ap (parent_or_0 (linkables_from base slots)) (find_numbered k base (base + k) slots refl ∙ ap (linkable_in (base + k)) at)

-- what is found by a number is the message that it names
found_named : (loaded : Loaded) (number : ℕ) → find (λ one. one.number == number) (linkables [] loaded) ≡ option_map (loaded_linkable number) (loaded_at loaded number)
found_named loaded number =
    elim (cases_lt number loaded.base) [
      | inl below ↦ none_numbered number loaded.base loaded.slots below ∙ sym (ap (option_map (loaded_linkable number)) (below_base loaded number below))
      | inr from ↦
          find_numbered (number - loaded.base) loaded.base number loaded.slots (omega arith) ∙ as_named (slice_get loaded.slots (number - loaded.base))
          ∙ sym (ap (option_map (loaded_linkable number)) (by_place loaded number from))
    ]
  where
    as_named : (slot : Option LoadedSlot) → linkable_in number slot ≡ option_map (loaded_linkable number) (message_in slot)
    as_named None = refl
    as_named (Some Empty) = refl
    as_named (Some (Killed header_at)) = refl
    as_named (Some (Live message)) = refl

-- so the parent of a number is that of the message
pub parent_of_named : (loaded : Loaded) (number : ℕ) (found : Option LoadedMessage) → found ≡ loaded_at loaded number
    → parent_or_0 (linkables [] loaded) (option_map (loaded_linkable number) found) ≡ parent_at (linkables [] loaded) number
parent_of_named loaded number found is =
    ap (λ one. parent_or_0 (linkables [] loaded) (option_map (loaded_linkable number) one)) is ∙ sym (ap (parent_or_0 (linkables [] loaded)) (found_named loaded number))

-- with a REPLYID it is the lowest with that id below
pub parent_by_lowest : (base k result : ℕ) (slots : List LoadedSlot) (message : LoadedMessage) (numbers : List ℕ → ℕ) (id : List ℕ)
    → slice_get slots k ≡ Some (Live message) → Some id ≡ replyid_of message.subfields
    → HasLowest numbers (linkables_from base (take k slots)) → result ≡ numbers id
    → result ≡ parent_at (linkables_from base slots) (base + k)
parent_by_lowest base k result slots message numbers id at reply lowest is =
    is ∙ lowest id ∙ ap number_or_0 (sym (find_below (λ one. is_id id one.msgid) k base (base + k) slots refl))
    ∙ ap (λ r. parent_for (linkables_from base slots) (base + k) r message.head.reply_to) reply
    ∙ sym (parent_of_message base k slots message at)

-- without one it is the kept number, where it is live below
pub parent_by_kept : (base k result : ℕ) (slots : List LoadedSlot) (message : LoadedMessage)
    → slice_get slots k ≡ Some (Live message) → None ≡ replyid_of message.subfields
    → result ≡ number_or_0 (find (λ one. one.number == message.head.reply_to) (linkables_from base (take k slots)))
    → result ≡ parent_at (linkables_from base slots) (base + k)
parent_by_kept base k result slots message at reply is =
    is ∙ ap number_or_0 (sym (find_below (λ one. one.number == message.head.reply_to) k base (base + k) slots refl))
    ∙ ap (λ r. parent_for (linkables_from base slots) (base + k) r message.head.reply_to) reply
    ∙ sym (parent_of_message base k slots message at)

-- one more live message, or none, behind others
pub one_more : (base k : ℕ) (slots : List LoadedSlot) (slot : LoadedSlot) → k < length slots → slot ≡ get_or slots k slot
    → linkables_from base (take (k + 1) slots) ≡ linkables_from base (take k slots) ++ linkables_from (base + k) (slot ∷ [])
one_more base k slots slot within read =
    let front : length (take k slots) ≡ k = omega (arith, length-take {A = LoadedSlot}) in
    ap (linkables_from base) ((take_at_read slots k slot within).1 ∙ ap (λ s. take k slots ++ s ∷ []) (sym read))
    ∙ linkables_from-append base (take k slots) (slot ∷ [])
    ∙ ap (λ n. linkables_from base (take k slots) ++ linkables_from (base + n) (slot ∷ [])) front

-- the lowest numbers with one more slot
pub lowest_step : (base k : ℕ) (slots : List LoadedSlot) (old new : List ℕ → ℕ) → 1 ≤ base → k < length slots
    → HasLowest old (linkables_from base (take k slots)) → KeepsLowest old new (base + k) (slice_get slots k) → HasLowest new (linkables_from base (take (k + 1) slots))
lowest_step base k slots old new one within before keeps = λ id. with_slot id (get_or slots k Empty) (slice_get-get_or slots k Empty within)
  where
    live_case : (b : Bool) (message : LoadedMessage) → cond (b && true) (base + k) 0 ≡ number_or_0 (cond b (Some (loaded_linkable (base + k) message)) None)
    live_case true message = refl
    live_case false message = refl

    and_false : (b : Bool) → (b && false) ≡ false
    and_false true = refl
    and_false false = refl

    step_case : (id : List ℕ) (slot : LoadedSlot) (lower : Option Linkable) → ((x : Linkable) → lower ≡ Some x → 1 ≤ x.number)
        → cond (is_id id (msgid_in (Some slot)) && (number_or_0 lower == 0)) (base + k) (number_or_0 lower)
        ≡ number_or_0 (option_or lower (find (λ x. is_id id x.msgid) (linkables_from (base + k) (slot ∷ []))))
    step_case id slot (Some x) above =
        let taken : (x.number == 0) ≡ false = ne_eqb x.number 0 (λ e. let h : 1 ≤ x.number = above x refl in omega arith) in
        ap (λ b. cond (is_id id (msgid_in (Some slot)) && b) (base + k) x.number) taken
        ∙ ap (λ b. cond b (base + k) x.number) (and_false (is_id id (msgid_in (Some slot))))
    step_case id Empty None above = refl
    step_case id (Killed header_at) None above = refl
    step_case id (Live message) None above = live_case (is_id id (msgid_of message.subfields)) message

    with_slot : (id : List ℕ) (slot : LoadedSlot) → slice_get slots k ≡ Some slot
        → new id ≡ number_or_0 (find (λ one. is_id id one.msgid) (linkables_from base (take (k + 1) slots)))
    with_slot id slot at =
        let r : Linkable → Bool = λ x. is_id id x.msgid in
        keeps id
        ∙ ap (λ there. cond (is_id id (msgid_in there) && (old id == 0)) (base + k) (old id)) at
        ∙ ap (λ n. cond (is_id id (msgid_in (Some slot)) && (n == 0)) (base + k) n) (before id)
        ∙ step_case id slot (find r (linkables_from base (take k slots))) (λ x found. let from : base ≤ x.number = found_from r base (take k slots) x found in omega arith)
        ∙ ap number_or_0
        (sym (ap (find r) (one_more base k slots slot within (sym (get_or_from_slice_get slots k slot slot at))) ∙ find-append r (linkables_from base (take k slots)) (linkables_from (base + k) (slot ∷ []))))

-- the parents with one more
pub parents_step : (live : List Linkable) (base k parent : ℕ) (parents : List ℕ) → AreParents live base k parents → parent ≡ parent_at live (base + k)
    → AreParents live base (k + 1) (parents ++ parent ∷ [])
parents_step live base k parent parents h is = record {
  len = grind (arith, common_steps, h.len);
  each = λ place below. grind (arith, common_steps, h.len, h.each place);
}
