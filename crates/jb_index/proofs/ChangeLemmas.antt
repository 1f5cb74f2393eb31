-- What readings, edits, marks and other changes of no slot make of the index of an area.
use Rattle.std.proofs.Common.{◌≡◌, ℕ, ◌+◌, ◌<◌, ◌||◌, Bool, true, false, cond, nat_lt, List, [], ◌∷◌, Option, Some, None, map, length, slice_get, slice_set, refl, sym, ◌∙◌, ap, arith, subst, lt-ltb}
use Rattle.std.specs.Prelude.{is_some, slice_index_or, unwrap_or}
use Rattle.std.specs.Option.{option_map}
use Rattle.std.proofs.lemmas.List.{length-map, length-set, map-set}
use Rattle.std.proofs.lemmas.Option.{get_or_from_slice_get, slice_get-map}
use Rattle.jb_base.specs.declared.area.AreaRules.{AreaRules}
use Rattle.jb_limits.specs.declared.limits.TheConstants.{MOST_MARKS}
use Rattle.jb_state.specs.Change.{Fits, FitsAnew, IsReadingOf, after, with_slot_changed}
use Rattle.jb_state.specs.Links.{Linkable, linkable, linkables_of, parent_at}
use Rattle.jb_state.specs.Live.{live_from}
use Rattle.jb_state.specs.Loaded.{IsMessageAt, slot_with_head}
use Rattle.jb_state.specs.Marks.{is_mark, mark_of}
use Rattle.jb_state.specs.Message.{msgid_of, replyid_of, subject_of}
use Rattle.jb_state.specs.Places.{IsPlaceOf}
use Rattle.jb_state.specs.Short.{short_of}
use Rattle.jb_state.specs.Sound.{IsSound}
use Rattle.jb_state.specs.State.{LiveMessage, SlotState, live_message, slot_state, state_of, text_of}
use Rattle.jb_state.specs.declared.change.Change.{Change}
use Rattle.jb_state.specs.declared.change.Change.TheVariants.{Edited, Headed, Marked, Nothing}
use Rattle.jb_state.specs.declared.change.HeadAt.{HeadAt}
use Rattle.jb_state.specs.declared.loaded.Loaded.{Loaded}
use Rattle.jb_state.specs.declared.loaded.LoadedMessage.{LoadedMessage}
use Rattle.jb_state.specs.declared.loaded.LoadedSlot.{LoadedSlot}
use Rattle.jb_state.specs.declared.loaded.LoadedSlot.TheVariants.{Empty, Live}
use Rattle.jb_state.specs.declared.mark.Mark.{Mark}
use Rattle.jb_state.specs.declared.message.Head.{Head}
use Rattle.jb_state.specs.declared.short.Short.{Short}
use Rattle.jb_state.proofs.EditLaws.{edited_linkable, with_subject-other}
use Rattle.jb_bytes.specs.Subfields.{first_of, receiver_of, sender_of}
use Rattle.jb_bytes.specs.declared.subfield.Subfield.{Subfield}
use Rattle.jb_bytes.specs.declared.subfield.TheConstants.{RECEIVER_NAME, SENDER_NAME}
use Rattle.jb_link.proofs.SpliceLemmas.{linkables_set}
use Rattle.jb_index.specs.Change.{Follows}
use Rattle.jb_index.specs.Edit.{absorbed, fits_mark, with_attribute, with_kept_subject}
use Rattle.jb_index.specs.Index.{AreaIndex, index_of, summary_of, summary_with}
use Rattle.jb_index.specs.declared.op.OpEdit.{OpEdit}
use Rattle.jb_index.specs.declared.op.OpEdit.TheVariants.{Attribute, Mark as Marking, Subject}
use Rattle.jb_index.proofs.MakingLemmas.{listed_of_state, same_index, same_summary}
use Rattle.jb_index.proofs.PlaceLemmas.{is_some_find}
use Rattle.jb_index.proofs.SlotLemmas.{changed_set, numbered}

-- the index of an area with these marks and slots, of which the first has the number `base`
abbrev pub index_on : AreaRules → List Mark → ℕ → List SlotState → AreaIndex
index_on rules marks base slots = record {
  summaries = map (summary_of (map linkable (live_from base slots))) (live_from base slots);
  marks = marks;
  base = base;
  next = base + length slots;
  rules = rules;
}

-- a live message without its text
abbrev pub textless : LoadedMessage → LiveMessage
textless message = record { owner = message.owner; head = message.head; subfields = message.subfields; text = text_of [] message }

-- the slots without their texts
abbrev pub textless_slots : Loaded → List SlotState
textless_slots loaded = map (slot_state []) loaded.slots

-- no text bears on an index
without_texts : (rules : AreaRules) (texts : List ℕ) (loaded : Loaded) → index_of rules (state_of texts loaded) ≡ index_of rules (state_of [] loaded)
without_texts rules texts loaded =
    same_index _ _ loaded.marks loaded.marks loaded.base _ _ rules rules (sym (listed_of_state texts loaded) ∙ listed_of_state [] loaded)
    refl (ap (λ n. loaded.base + n) (length-map loaded.slots (slot_state texts) ∙ sym (length-map loaded.slots (slot_state [])))) refl

-- so it is enough to see the index without texts
pub follows : (change : Change) (loaded : Loaded) (edits : List OpEdit)
    → ((rules : AreaRules) → IsSound rules.slots loaded → Fits rules.slots change loaded
    → absorbed (index_of rules (state_of [] loaded)) edits ≡ index_of rules (state_of [] (after change loaded)))
    → Follows change loaded edits
follows change loaded edits each = λ rules texts later sound fits.
    ap (λ (index : AreaIndex). absorbed index edits) (without_texts rules texts loaded) ∙ each rules sound fits
    ∙ sym (without_texts rules later (after change loaded))

-- edits and a change that are these
pub follows_as : (change is : Change) (loaded : Loaded) (edits are : List OpEdit) → change ≡ is → edits ≡ are → Follows is loaded are → Follows change loaded edits
follows_as change is loaded edits are same those law =
    subst (λ (c : Change). Follows c loaded edits) (sym same) (subst (λ (l : List OpEdit). Follows is loaded l) (sym those) law)

-- a refusal and a look change nothing
pub nothing_follows : (loaded : Loaded) → Follows Nothing loaded []
nothing_follows loaded = follows Nothing loaded [] (λ rules sound fits. refl)

-- a live message at a place of the area stands there in its state
pub state_here : (loaded : Loaded) (place : ℕ) (message : LoadedMessage) → IsMessageAt loaded place message → slice_get (textless_slots loaded) place ≡ Some (live_message (textless message))
state_here loaded place message here = slice_get-map (slot_state []) loaded.slots place ∙ ap (option_map (slot_state [])) here

-- and a change of its slot changes the slot of the state
pub changed_slots : (change : LoadedSlot → LoadedSlot) (loaded : Loaded) (place : ℕ) (message : LoadedMessage) → IsMessageAt loaded place message
    → textless_slots (with_slot_changed place change loaded) ≡ slice_set (textless_slots loaded) place (slot_state [] (change (Live message)))
changed_slots change loaded place message here =
    map-set (slot_state []) loaded.slots place (change (slice_index_or loaded.slots place Empty))
    ∙ ap (λ (slot : LoadedSlot). slice_set (textless_slots loaded) place (slot_state [] (change slot))) (get_or_from_slice_get loaded.slots place (Live message) Empty here)

-- a reading
headed_index : (rules : AreaRules) (at : HeadAt) (loaded : Loaded) → IsReadingOf at loaded
    → absorbed (index_of rules (state_of [] loaded)) (Attribute (loaded.base + at.place) at.head.attribute ∷ []) ≡ index_of rules (state_of [] (after (Headed at) loaded))
headed_index rules at loaded reading =
    same_index _ _ loaded.marks loaded.marks loaded.base _ _ rules rules
    (sym (ap (λ (live : List Linkable). map (summary_of live) (live_from loaded.base slots)) links
    ∙ changed_set (summary_of live) (λ one. refl) (with_attribute at.head.attribute) at.place loaded.base (loaded.base + at.place) (textless_slots loaded)
    (textless message) changed here refl (made (loaded.base + at.place))))
    refl (ap (λ n. loaded.base + n) (sym (length-set (textless_slots loaded) at.place (live_message changed)))) refl
    ∙ ap (index_on rules loaded.marks loaded.base) (sym (changed_slots (slot_with_head at.head) loaded at.place message reading.here))
  where
    message : LoadedMessage
    message = reading.message

    changed : LiveMessage
    changed = textless (record message { head = at.head })

    live : List Linkable
    live = linkables_of (state_of [] loaded)

    slots : List SlotState
    slots = slice_set (textless_slots loaded) at.place (live_message changed)

    here : slice_get (textless_slots loaded) at.place ≡ Some (live_message (textless message))
    here = state_here loaded at.place message reading.here

    links : map linkable (live_from loaded.base slots) ≡ live
    links =
        linkables_set at.place loaded.base (textless_slots loaded) (textless message) changed here
        (λ n. ap (λ (head : Head). record { number = n; msgid = msgid_of message.subfields; replyid = replyid_of message.subfields; kept = head.reply_to }) reading.same)

    made : (n : ℕ) → summary_of live (numbered n changed) ≡ with_attribute at.head.attribute (summary_of live (numbered n (textless message)))
    made n = ap (λ (head : Head). with_attribute at.head.attribute (summary_with n head message.subfields (parent_at live n))) reading.same

-- so a reading changes one attribute
pub headed_follows : (at : HeadAt) (loaded : Loaded) → Follows (Headed at) loaded (Attribute (loaded.base + at.place) at.head.attribute ∷ [])
headed_follows at loaded =
    follows (Headed at) loaded (Attribute (loaded.base + at.place) at.head.attribute ∷ []) (λ rules sound reading. headed_index rules at loaded reading)

-- what links rest on, of these parts
abbrev linked : ℕ → Option (List ℕ) → Option (List ℕ) → ℕ → Linkable
linked number msgid replyid kept = record { number = number; msgid = msgid; replyid = replyid; kept = kept }

-- an edit
edited_index : (rules : AreaRules) (place : ℕ) (message : LoadedMessage) (loaded : Loaded) → FitsAnew place message loaded
    → absorbed (index_of rules (state_of [] loaded)) (Subject (loaded.base + place) (short_of 72 (subject_of message.subfields)) ∷ [])
    ≡ index_of rules (state_of [] (after (Edited place message) loaded))
edited_index rules place message loaded fits =
    same_index _ _ loaded.marks loaded.marks loaded.base _ _ rules rules
    (sym (ap (λ (live : List Linkable). map (summary_of live) (live_from loaded.base slots)) links
    ∙ changed_set (summary_of live) (λ one. refl) (with_kept_subject subject) place loaded.base (loaded.base + place) (textless_slots loaded)
    (textless was) (textless message) here refl (made (loaded.base + place))))
    refl (ap (λ n. loaded.base + n) (sym (length-set (textless_slots loaded) place (live_message (textless message))))) refl
    ∙ ap (index_on rules loaded.marks loaded.base) (sym (map-set (slot_state []) loaded.slots place (Live message)))
  where
    was : LoadedMessage
    was = fits.was

    subject : Short 72
    subject = short_of 72 (subject_of message.subfields)

    live : List Linkable
    live = linkables_of (state_of [] loaded)

    slots : List SlotState
    slots = slice_set (textless_slots loaded) place (live_message (textless message))

    here : slice_get (textless_slots loaded) place ≡ Some (live_message (textless was))
    here = state_here loaded place was fits.here

    links : map linkable (live_from loaded.base slots) ≡ live
    links =
        linkables_set place loaded.base (textless_slots loaded) (textless was) (textless message) here
        (λ n. ap (λ (head : Head). linked n (msgid_of message.subfields) (replyid_of message.subfields) head.reply_to) fits.head
        ∙ ap (λ (fields : List Subfield). linked n (msgid_of fields) (replyid_of fields) was.head.reply_to) fits.subfields
        ∙ edited_linkable fits.subject [] n (textless was))

    sender : sender_of message.subfields ≡ sender_of was.subfields
    sender =
        ap (λ (fields : List Subfield). unwrap_or (first_of SENDER_NAME fields) []) fits.subfields
        ∙ ap (λ (found : Option (List ℕ)). unwrap_or found []) (with_subject-other SENDER_NAME fits.subject was.subfields (λ e. omega arith))

    receiver : receiver_of message.subfields ≡ receiver_of was.subfields
    receiver =
        ap (λ (fields : List Subfield). unwrap_or (first_of RECEIVER_NAME fields) []) fits.subfields
        ∙ ap (λ (found : Option (List ℕ)). unwrap_or found []) (with_subject-other RECEIVER_NAME fits.subject was.subfields (λ e. omega arith))

    made : (n : ℕ) → summary_of live (numbered n (textless message)) ≡ with_kept_subject subject (summary_of live (numbered n (textless was)))
    made n =
        ap (λ (head : Head). summary_with n head message.subfields (parent_at live n)) fits.head
        ∙ same_summary n was.head.written was.head.attribute (parent_at live n) (short_of 36 (sender_of message.subfields)) (short_of 36 (sender_of was.subfields))
        (short_of 36 (receiver_of message.subfields)) (short_of 36 (receiver_of was.subfields)) subject subject
        (ap (short_of 36) sender) (ap (short_of 36) receiver) refl

-- so an edit changes one subject
pub edited_follows : (place : ℕ) (message : LoadedMessage) (loaded : Loaded)
    → Follows (Edited place message) loaded (Subject (loaded.base + place) (short_of 72 (subject_of message.subfields)) ∷ [])
edited_follows place message loaded =
    follows (Edited place message) loaded (Subject (loaded.base + place) (short_of 72 (subject_of message.subfields)) ∷ [])
    (λ rules sound fits. edited_index rules place message loaded fits)

-- where the place of a mark is known there is room
mark_has_room : (mark : Mark) (marks : List Mark) (place : Option ℕ) → IsPlaceOf mark.user_crc mark.user_id marks place → (place ≡ None → length marks < MOST_MARKS) → fits_mark mark marks ≡ true
mark_has_room mark marks None none few = free (is_some (mark_of mark.user_crc mark.user_id marks)) (nat_lt (length marks) MOST_MARKS) (lt-ltb _ _ (few refl))
  where
    free : (a b : Bool) → b ≡ true → (a || b) ≡ true
    free true b room = refl
    free false b room = room
mark_has_room mark marks (Some place) first few =
    ap (λ b. b || nat_lt (length marks) MOST_MARKS) (is_some_find (is_mark mark.user_crc mark.user_id) marks place mark first.within (first.here mark))

-- a mark
pub marked_follows : (place : Option ℕ) (mark : Mark) (loaded : Loaded) → Follows (Marked place mark) loaded (Marking mark ∷ [])
marked_follows place mark loaded = follows (Marked place mark) loaded (Marking mark ∷ []) (λ rules sound fits.
    ap (λ b. cond b (index_of rules (state_of [] (after (Marked place mark) loaded))) (index_of rules (state_of [] loaded))) (mark_has_room mark loaded.marks place fits.0 fits.1))
