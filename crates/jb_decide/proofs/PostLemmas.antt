-- The ways through a post.
use Rattle.std.proofs.Common.{◌≡◌, ◌^◌, ◌%◌, inl, inr, ℕ, ◌+◌, ◌<◌, ◌≤◌, Bool, true, false, cond, not, ◌&&◌, ◌==◌, nat_le, nat_lt, ltb-false, leb-false, List, [], ◌++◌, length, Option, Some, None, refl, sym, ◌∙◌, ap, subst, arith}
use Rattle.std.specs.Prelude.{is_none}
use Rattle.std.specs.Option.{option_map}
use Rattle.std.proofs.lemmas.List.{length-map}
use Rattle.jb_base.specs.Access.{first_refusal}
use Rattle.jb_bytes.specs.Crc.{jam_crc_of}
use Rattle.jb_bytes.specs.Subfields.{subfield_bytes}
use Rattle.jb_base.specs.declared.area.Action.TheVariants.{Post as Posting}
use Rattle.jb_base.specs.declared.area.AreaRules.{AreaRules}
use Rattle.jb_limits.specs.declared.limits.TheConstants.{HEADERS_CEILING, LAST_POSTED_NUMBER, MOST_ADDRESS_BYTES, MOST_NAME_BYTES, MOST_POSTED_TEXT_BYTES, MOST_SUBJECT_BYTES, TEXTS_CEILING}
use Rattle.jb_bytes.specs.declared.subfield.Subfield.{Subfield}
use Rattle.jb_base.specs.declared.user.User.{User}
use Rattle.jb_link.proofs.CopiedLemmas.{copied_of_state, parent_of_state}
use Rattle.jb_link.proofs.ReplyLemmas.{found_kept, kept_if_live}
use Rattle.jb_model.proofs.RangeLaws.{fit_draft, none_of, posted_in_range}
use Rattle.jb_model.specs.Answered.{Answered, unless_refused}
use Rattle.jb_state.specs.Live.{counted}
use Rattle.jb_state.specs.Loaded.{header_size, with_message_behind}
use Rattle.jb_state.specs.Message.{header_length, replyid_of}
use Rattle.jb_model.specs.Post.{Draft, answer_refusal, draft_refusal, parts_refusal, post_done, post_step, posted_message, posted_msgid, room_refusal, told_length, fields_with, head_with}
use Rattle.jb_state.specs.Posted.{posted_parent, posted_replyid}
use Rattle.jb_state.specs.Sound.{IsSound}
use Rattle.jb_model.specs.Standing.{is_refusal}
use Rattle.jb_state.specs.State.{AreaState, IsMessageInRange, LiveMessage, next_number, slot_state, state_of, with_text}
use Rattle.jb_state.specs.declared.loaded.Loaded.{Loaded}
use Rattle.jb_state.specs.declared.loaded.LoadedMessage.{LoadedMessage}
use Rattle.jb_state.specs.declared.message.Head.{Head}
use Rattle.jb_model.specs.declared.reply.Reply.{Reply}
use Rattle.jb_model.specs.declared.command.Field.TheVariants.{To, Subject, Text as TextField}
use Rattle.jb_base.specs.declared.area.Rule.{Rule}
use Rattle.jb_model.specs.declared.reply.Reply.TheVariants.{Denied, EmptyName, HeadersFull, NoMessage, NumbersSpent, Posted, SlotsFull, TextFull, TooLong}
use Rattle.jb_state.specs.Change.{FitsBehind, headed_where, live_messages, loaded_counted}
use Rattle.jb_state.specs.Links.{Linkable, parent_for}
use Rattle.jb_state.specs.LiveSlots.{linkables}
use Rattle.jb_link.specs.Parents.{copied_msgid, parent_behind}
use Rattle.jb_decide.specs.Draft.{new_fields, new_message, next_of, post_of}
use Rattle.jb_decide.specs.Neighbour.{HasNeighbour, spliced_state}
use Rattle.jb_decide.specs.StepOf.{IsStepOf}
use Rattle.jb_decide.proofs.StepLemmas.{something}
use Rattle.jb_decide.specs.Refusal.{IsRefusal}
use Rattle.jb_decide.specs.Room.{file_refusal, new_refusal, number_refusal, or_refusal, unseen_refusal}
use Rattle.jb_decide.specs.Seen.{seen_at}
use Rattle.jb_state.specs.declared.change.Change.TheVariants.{Posted as PostedBehind}
use Rattle.jb_state.specs.declared.change.HeadAt.{HeadAt}
use Rattle.jb_decide.proofs.BehindLemmas.{grown, sound_behind, state_behind}
use Rattle.jb_decide.proofs.CountLemmas.{counted_now}
use Rattle.jb_decide.proofs.SoundLemmas.{as_many, sound_counted}
use Rattle.jb_decide.proofs.StateLemmas.{accepted_way, allowed_way, answer, denied_way, refused_way, visible_at_loaded}

-- the next number
next_of_state : (texts : List ℕ) (loaded : Loaded) → next_number (state_of texts loaded) ≡ next_of loaded
next_of_state texts loaded = ap (λ n. loaded.base + n) (length-map loaded.slots (slot_state texts))

-- a message with these ids, this number and this parent
abbrev message_with : AreaRules → User → ℕ → Draft → ℕ → Option (List ℕ) → ℕ → LiveMessage
message_with rules user moment draft number replyid parent = record {
  owner = jam_crc_of draft.to;
  head = head_with rules moment draft (posted_msgid rules number) replyid parent;
  subfields = fields_with user draft (posted_msgid rules number) replyid;
  text = draft.text;
}

-- the new message with its text
abbrev pub new_live : AreaRules → Loaded → User → ℕ → Draft → LiveMessage
new_live rules loaded user moment draft =
    message_with rules user moment draft (next_of loaded) (copied_msgid loaded draft.reply_to) (parent_behind loaded draft.reply_to)

-- it is the message that is posted
posted_of_state : (texts : List ℕ) (rules : AreaRules) (loaded : Loaded) (user : User) (moment : ℕ) (draft : Draft)
    → posted_message rules (state_of texts loaded) user moment draft ≡ new_live rules loaded user moment draft
posted_of_state texts rules loaded user moment draft =
    ap (λ n. message_with rules user moment draft n (posted_replyid (state_of texts loaded) draft.reply_to) (posted_parent (state_of texts loaded) draft.reply_to)) (next_of_state texts loaded)
    ∙ ap (λ r. message_with rules user moment draft (next_of loaded) r (posted_parent (state_of texts loaded) draft.reply_to)) (copied_of_state texts loaded draft.reply_to)
    ∙ ap (message_with rules user moment draft (next_of loaded) (copied_msgid loaded draft.reply_to)) (parent_of_state texts loaded draft.reply_to)

-- whether the message that is answered is seen
unseen_of_state : (texts : List ℕ) (rules : AreaRules) (loaded : Loaded) (user : User) (draft : Draft)
    → answer_refusal rules (state_of texts loaded) user draft ≡ unseen_refusal rules loaded user draft
unseen_of_state texts rules loaded user draft =
    ap (λ b. cond (not (draft.reply_to == 0) && b) (Some (NoMessage draft.reply_to)) None)
    (ap is_none (visible_at_loaded texts rules user loaded draft.reply_to) ∙ by_found (seen_at rules user loaded draft.reply_to))
  where
    by_found : (found : Option LoadedMessage) → is_none (option_map (with_text texts) found) ≡ is_none found
    by_found None = refl
    by_found (Some message) = refl

-- whether there is room
room_of_state : (texts : List ℕ) (rules : AreaRules) (loaded : Loaded) (message : LiveMessage)
    → room_refusal rules (state_of texts loaded) message ≡ or_refusal (number_refusal rules loaded) (file_refusal loaded (header_length message) (length message.text))
room_of_state texts rules loaded message =
    ap (λ count. cond (nat_lt LAST_POSTED_NUMBER (loaded.base + count)) (Some (NumbersSpent (loaded.base + count)))
    (cond (nat_le rules.slots count) (Some (SlotsFull rules.slots)) (file_refusal loaded (header_length message) (length message.text))))
    (length-map loaded.slots (slot_state texts))
    ∙ split (nat_lt LAST_POSTED_NUMBER (next_of loaded)) (nat_le rules.slots (length loaded.slots)) (file_refusal loaded (header_length message) (length message.text))
  where
    split : (spent full : Bool) (rest : Option Reply)
        → cond spent (Some (NumbersSpent (next_of loaded))) (cond full (Some (SlotsFull rules.slots)) rest)
        ≡ or_refusal (cond spent (Some (NumbersSpent (next_of loaded))) (cond full (Some (SlotsFull rules.slots)) None)) rest
    split true full rest = refl
    split false true rest = refl
    split false false rest = refl

-- what follows the rules, the draft and the message that is answered
abbrev room_rest : AreaRules → AreaState → LiveMessage → Answered
room_rest rules state message = unless_refused state (room_refusal rules state message) (post_done state message)

-- what follows the rules and the draft
abbrev answer_rest : AreaRules → AreaState → User → ℕ → Draft → Answered
answer_rest rules state user moment draft =
    unless_refused state (answer_refusal rules state user draft) (room_rest rules state (posted_message rules state user moment draft))

-- up to the message that is answered
to_answer : (rules : AreaRules) (state : AreaState) (user : User) (moment : ℕ) (draft : Draft) → first_refusal user rules Posting None ≡ None → draft_refusal draft ≡ None
    → post_step rules state user moment draft ≡ answer_rest rules state user moment draft
to_answer rules state user moment draft allowed fit =
    allowed_way state (first_refusal user rules Posting None) (unless_refused state (draft_refusal draft) (answer_rest rules state user moment draft)) allowed
    ∙ accepted_way state (draft_refusal draft) (answer_rest rules state user moment draft) fit

-- up to the room
to_room : (texts : List ℕ) (rules : AreaRules) (loaded : Loaded) (user : User) (moment : ℕ) (draft : Draft) → first_refusal user rules Posting None ≡ None
    → draft_refusal draft ≡ None → unseen_refusal rules loaded user draft ≡ None
    → post_step rules (state_of texts loaded) user moment draft
    ≡ unless_refused (state_of texts loaded) (or_refusal (number_refusal rules loaded) (new_refusal rules loaded user draft))
    (post_done (state_of texts loaded) (new_live rules loaded user moment draft))
to_room texts rules loaded user moment draft allowed fit seen =
    let state : AreaState = state_of texts loaded in
    to_answer rules state user moment draft allowed fit
    ∙ accepted_way state (answer_refusal rules state user draft) (room_rest rules state (posted_message rules state user moment draft))
    (unseen_of_state texts rules loaded user draft ∙ seen)
    ∙ ap (room_rest rules state) (posted_of_state texts rules loaded user moment draft)
    ∙ ap (λ o. unless_refused state o (post_done state (new_live rules loaded user moment draft)))
    (room_of_state texts rules loaded (new_live rules loaded user moment draft))

-- one of two refusals, or another
pub refuses_then : (b : Bool) (first : Reply) (rest : Option Reply) (reply : Reply) → is_refusal first ≡ true → (rest ≡ Some reply → is_refusal reply ≡ true)
    → cond b (Some first) rest ≡ Some reply → is_refusal reply ≡ true
refuses_then true first rest reply one other is = let same : first ≡ reply = cc in sym (ap is_refusal same) ∙ one
refuses_then false first rest reply one other is = other is

-- none is no refusal
pub refuses_none : (reply : Reply) → None ≡ Some reply → is_refusal reply ≡ true
refuses_none reply is = absurd (cc)

-- the user may not post
pub post_denied : (rules : AreaRules) (loaded : Loaded) (user : User) (draft : Draft) (rule : Rule) → first_refusal user rules Posting None ≡ Some rule
    → IsRefusal rules loaded user (post_of draft) (Denied rule)
post_denied rules loaded user draft rule denied = record {
  refusal = refl;
  step = λ texts moment.
      let state : AreaState = state_of texts loaded in
      denied_way state (first_refusal user rules Posting None) rule (unless_refused state (draft_refusal draft) (answer_rest rules state user moment draft)) denied;
}

-- a part that is too long is refused
pub refuses_parts : (subject text : List ℕ) (reply : Reply) → parts_refusal subject text ≡ Some reply → is_refusal reply ≡ true
refuses_parts subject text reply =
    refuses_then (nat_lt MOST_SUBJECT_BYTES (length subject)) (TooLong Subject (length subject)) _ reply refl
    (refuses_then (nat_lt MOST_POSTED_TEXT_BYTES (length text)) (TooLong TextField (length text)) None reply refl (refuses_none reply))

-- files without room are a refusal
pub refuses_files : (loaded : Loaded) (header text : ℕ) (reply : Reply) → file_refusal loaded header text ≡ Some reply → is_refusal reply ≡ true
refuses_files loaded header text reply =
    refuses_then (nat_lt HEADERS_CEILING (loaded.headers_len + header)) (HeadersFull (told_length (loaded.headers_len + header))) _ reply refl
    (refuses_then (nat_lt TEXTS_CEILING (loaded.texts_len + text)) (TextFull (told_length (loaded.texts_len + text))) None reply refl (refuses_none reply))

-- each reason why a draft is not fit is a refusal
refuses_unfit : (draft : Draft) (reply : Reply) → draft_refusal draft ≡ Some reply → is_refusal reply ≡ true
refuses_unfit draft reply unfit =
    refuses_then (length draft.to == 0) (EmptyName To) _ reply refl
    (refuses_then (nat_lt MOST_NAME_BYTES (length draft.to)) (TooLong To (length draft.to)) _ reply refl
    (refuses_parts draft.subject draft.text reply)) unfit

-- the draft is not fit
pub post_unfit : (rules : AreaRules) (loaded : Loaded) (user : User) (draft : Draft) (reply : Reply) → first_refusal user rules Posting None ≡ None
    → draft_refusal draft ≡ Some reply → IsRefusal rules loaded user (post_of draft) reply
post_unfit rules loaded user draft reply allowed unfit = record {
  refusal = refuses_unfit draft reply unfit;
  step = λ texts moment.
      let state : AreaState = state_of texts loaded in
      allowed_way state (first_refusal user rules Posting None) (unless_refused state (draft_refusal draft) (answer_rest rules state user moment draft)) allowed
      ∙ refused_way state (draft_refusal draft) reply (answer_rest rules state user moment draft) unfit;
}

-- the user does not see what is answered
pub post_unseen : (rules : AreaRules) (loaded : Loaded) (user : User) (draft : Draft) (reply : Reply) → first_refusal user rules Posting None ≡ None
    → draft_refusal draft ≡ None → unseen_refusal rules loaded user draft ≡ Some reply → IsRefusal rules loaded user (post_of draft) reply
post_unseen rules loaded user draft reply allowed fit unseen = record {
  refusal = refuses_then (not (draft.reply_to == 0) && is_none (seen_at rules user loaded draft.reply_to)) (NoMessage draft.reply_to) None reply refl (refuses_none reply) unseen;
  step = λ texts moment.
      to_answer rules (state_of texts loaded) user moment draft allowed fit
      ∙ refused_way (state_of texts loaded) (answer_refusal rules (state_of texts loaded) user draft) reply
      (room_rest rules (state_of texts loaded) (posted_message rules (state_of texts loaded) user moment draft)) (unseen_of_state texts rules loaded user draft ∙ unseen);
}

-- there is no further number or slot
pub post_numberless : (rules : AreaRules) (loaded : Loaded) (user : User) (draft : Draft) (reply : Reply) → first_refusal user rules Posting None ≡ None
    → draft_refusal draft ≡ None → unseen_refusal rules loaded user draft ≡ None → number_refusal rules loaded ≡ Some reply → IsRefusal rules loaded user (post_of draft) reply
post_numberless rules loaded user draft reply allowed fit seen none = record {
  refusal = refuses_then (nat_lt LAST_POSTED_NUMBER (next_of loaded)) (NumbersSpent (next_of loaded)) _ reply refl
      (refuses_then (nat_le rules.slots (length loaded.slots)) (SlotsFull rules.slots) None reply refl (refuses_none reply)) none;
  step = λ texts moment.
      to_room texts rules loaded user moment draft allowed fit seen
      ∙ refused_way (state_of texts loaded) (or_refusal (number_refusal rules loaded) (new_refusal rules loaded user draft)) reply
      (post_done (state_of texts loaded) (new_live rules loaded user moment draft)) (ap (λ o. or_refusal o (new_refusal rules loaded user draft)) none);
}

-- the files have no room
pub post_full : (rules : AreaRules) (loaded : Loaded) (user : User) (draft : Draft) (reply : Reply) → first_refusal user rules Posting None ≡ None
    → draft_refusal draft ≡ None → unseen_refusal rules loaded user draft ≡ None → number_refusal rules loaded ≡ None → new_refusal rules loaded user draft ≡ Some reply
    → IsRefusal rules loaded user (post_of draft) reply
post_full rules loaded user draft reply allowed fit seen numbered full = record {
  refusal = refuses_files loaded (76 + length (subfield_bytes (new_fields rules loaded user draft))) (length draft.text) reply full;
  step = λ texts moment.
      to_room texts rules loaded user moment draft allowed fit seen
      ∙ refused_way (state_of texts loaded) (or_refusal (number_refusal rules loaded) (new_refusal rules loaded user draft)) reply
      (post_done (state_of texts loaded) (new_live rules loaded user moment draft)) (ap (λ o. or_refusal o (new_refusal rules loaded user draft)) numbered ∙ full);
}

-- nothing refuses the post
pub record IsAccepted (rules : AreaRules) (loaded : Loaded) (user : User) (draft : Draft) : Type 0 where
  pub allowed : first_refusal user rules Posting None ≡ None
  pub fit : draft_refusal draft ≡ None
  pub seen : unseen_refusal rules loaded user draft ≡ None
  pub numbered : number_refusal rules loaded ≡ None
  pub room : new_refusal rules loaded user draft ≡ None

-- the message is posted
pub post_way : (texts : List ℕ) (rules : AreaRules) (loaded : Loaded) (user : User) (moment : ℕ) (draft : Draft) (neighbour : Option HeadAt)
    → IsAccepted rules loaded user draft → IsSound rules.slots loaded → length texts ≡ loaded.texts_len
    → HasNeighbour loaded (parent_behind loaded draft.reply_to) (next_of loaded) neighbour
    → post_step rules (state_of texts loaded) user moment draft
    ≡ answer (Posted (next_of loaded))
    (state_of (texts ++ draft.text) (loaded_counted (with_message_behind (new_message rules loaded user moment draft) (headed_where neighbour loaded))))
post_way texts rules loaded user moment draft neighbour accepted sound is h =
    let state : AreaState = state_of texts loaded in
    let live : LiveMessage = new_live rules loaded user moment draft in
    let message : LoadedMessage = new_message rules loaded user moment draft in
    let linked : Loaded = headed_where neighbour loaded in
    let parent : ℕ = parent_behind loaded draft.reply_to in
    let size : linked.texts_len ≡ loaded.texts_len = ap (λ (s : AreaState). s.texts_len) (h.spliced []) in
    to_room texts rules loaded user moment draft accepted.allowed accepted.fit accepted.seen
    ∙ accepted_way state (or_refusal (number_refusal rules loaded) (new_refusal rules loaded user draft)) (post_done state live)
    (ap (λ o. or_refusal o (new_refusal rules loaded user draft)) accepted.numbered ∙ accepted.room)
    ∙ ap (λ n. answer (Posted n) (counted (grown (spliced_state state parent n) live))) (next_of_state texts loaded)
    ∙ ap (λ s. answer (Posted (next_of loaded)) (counted (grown s live))) (sym (h.spliced texts))
    ∙ ap (λ s. answer (Posted (next_of loaded)) (counted s))
    (sym (state_behind rules.slots texts draft.text linked message (h.sound rules.slots sound) (is ∙ sym size) (sym size) refl))
    ∙ ap (answer (Posted (next_of loaded))) (sym (counted_now (texts ++ draft.text) (with_message_behind message linked)))

-- the parent of a message that keeps its parent is that
parent_again : (live : List Linkable) (number : ℕ) (id : Option (List ℕ)) (kept : ℕ) → parent_for live number id kept ≡ parent_for live number id (parent_for live number id kept)
parent_again live number (Some bytes) kept = refl
parent_again live number None kept = elim (found_kept number kept live) [
  | inl none ↦
      (let again : kept_if_live live number 0 ≡ 0 = elim (found_kept number 0 live) [ inl zero ↦ zero | inr zero ↦ zero ] in
      none ∙ sym (ap (kept_if_live live number) none ∙ again))
  | inr same ↦ sym (ap (kept_if_live live number) same)
]

-- the REPLYID of a new message
replyid_made : (user : User) (draft : Draft) (msgid : List ℕ) (replyid : Option (List ℕ)) → replyid_of (fields_with user draft msgid replyid) ≡ replyid
replyid_made user draft msgid None = refl
replyid_made user draft msgid (Some bytes) = refl

-- there is a place for the message
post_fits : (rules : AreaRules) (loaded : Loaded) (user : User) (moment : ℕ) (draft : Draft) → IsAccepted rules loaded user draft
    → length user.name ≤ MOST_NAME_BYTES → length rules.address ≤ MOST_ADDRESS_BYTES → FitsBehind rules.slots (new_message rules loaded user moment draft) loaded
post_fits rules loaded user moment draft accepted name address =
    let message : LoadedMessage = new_message rules loaded user moment draft in
    let number = none_of (nat_lt LAST_POSTED_NUMBER (next_of loaded)) (NumbersSpent (next_of loaded)) _ accepted.numbered in
    let slot = none_of (nat_le rules.slots (length loaded.slots)) (SlotsFull rules.slots) None number.1 in
    let header : ℕ = header_size message in
    let headers = none_of (nat_lt HEADERS_CEILING (loaded.headers_len + header)) (HeadersFull (told_length (loaded.headers_len + header))) _ accepted.room in
    let texts = none_of (nat_lt TEXTS_CEILING (loaded.texts_len + length draft.text)) (TextFull (told_length (loaded.texts_len + length draft.text))) None headers.1 in
    let InRange : LiveMessage → Type 0 = IsMessageInRange in
    let range : IsMessageInRange (new_live rules loaded user moment draft) =
    subst InRange (posted_of_state [] rules loaded user moment draft) (posted_in_range rules (state_of [] loaded) user moment draft name address (fit_draft draft accepted.fit)) in
    record {
      number = ltb-false LAST_POSTED_NUMBER (next_of loaded) number.0;
      slot = leb-false rules.slots (length loaded.slots) slot.0;
      header_at = refl;
      text_at = refl;
      headers = ltb-false HEADERS_CEILING (loaded.headers_len + header) headers.0;
      texts = ltb-false TEXTS_CEILING (loaded.texts_len + length draft.text) texts.0;
      few_bytes = range.few_bytes;
      short = range.short_text;
      live = range.live;
      parent =
          parent_again (linkables [] loaded) (next_of loaded) (copied_msgid loaded draft.reply_to) draft.reply_to
          ∙ ap (λ (id : Option (List ℕ)). parent_for (linkables [] loaded) (next_of loaded) id (parent_behind loaded draft.reply_to))
          (sym (replyid_made user draft (posted_msgid rules (next_of loaded)) (copied_msgid loaded draft.reply_to)));
    }

-- the area stays sound
post_keeps_sound : (rules : AreaRules) (loaded : Loaded) (message : LoadedMessage) (parent number : ℕ) (neighbour : Option HeadAt)
    → FitsBehind rules.slots message loaded → IsSound rules.slots loaded → HasNeighbour loaded parent number neighbour
    → IsSound rules.slots (loaded_counted (with_message_behind message (headed_where neighbour loaded)))
post_keeps_sound rules loaded message parent number neighbour place sound h =
    let linked : Loaded = headed_where neighbour loaded in
    let header : ℕ = header_size message in
    let base : linked.base ≡ loaded.base = ap (λ (s : AreaState). s.base) (h.spliced []) in
    let headers_len : linked.headers_len ≡ loaded.headers_len = ap (λ (s : AreaState). s.headers_len) (h.spliced []) in
    let texts_len : linked.texts_len ≡ loaded.texts_len = ap (λ (s : AreaState). s.texts_len) (h.spliced []) in
    let slots : length linked.slots ≡ length loaded.slots = as_many neighbour loaded in
    let few_numbers : next_of loaded ≤ LAST_POSTED_NUMBER = place.number in
    let few_slots : length loaded.slots < rules.slots = place.slot in
    let headers_fit : loaded.headers_len + header ≤ HEADERS_CEILING = place.headers in
    let texts_fit : loaded.texts_len + message.text_len ≤ TEXTS_CEILING = place.texts in
    let header_at : message.header_at ≡ loaded.headers_len = place.header_at in
    let text_at : message.text_at ≡ loaded.texts_len = place.text_at in
    let behind : Loaded = with_message_behind message linked in
    let before : 1024 ≤ loaded.headers_len = sound.fixed in
    sound_counted rules.slots behind ((behind.counter + 1) % 2 ^ 32) (live_messages behind)
    (sound_behind rules.slots linked message (h.sound rules.slots sound) (record {
      numbers = omega arith;
      slots = omega arith;
      header_at = header_at ∙ sym headers_len;
      within = record {
        live = place.live;
        few_bytes = place.few_bytes;
        header = record { after = omega (arith, header_at, before); inside = omega (arith, headers_len, header_at); below = omega (arith, headers_fit, header_at) };
        text = record { short = place.short; placed = inr (omega (arith, texts_len, text_at), omega (arith, texts_fit, text_at)) };
      };
    }))

-- a post that nothing refuses
pub post_is : (rules : AreaRules) (loaded : Loaded) (user : User) (moment number : ℕ) (draft : Draft) (message : LoadedMessage) (neighbour : Option HeadAt)
    → IsAccepted rules loaded user draft → number ≡ next_of loaded → message ≡ new_message rules loaded user moment draft
    → HasNeighbour loaded message.head.reply_to number neighbour
    → IsSound rules.slots loaded → length user.name ≤ MOST_NAME_BYTES → length rules.address ≤ MOST_ADDRESS_BYTES
    → IsStepOf rules loaded user moment (post_of draft) (λ texts. Posted number) (PostedBehind message neighbour)
post_is rules loaded user moment number draft message neighbour accepted next made h sound name address =
    let posted : LoadedMessage = new_message rules loaded user moment draft in
    let there : HasNeighbour loaded (parent_behind loaded draft.reply_to) (next_of loaded) neighbour =
    subst (λ (n : ℕ). HasNeighbour loaded (parent_behind loaded draft.reply_to) n neighbour) next
    (subst (λ (m : LoadedMessage). HasNeighbour loaded m.head.reply_to number neighbour) made h) in
    let fits : FitsBehind rules.slots posted loaded = post_fits rules loaded user moment draft accepted name address in
    subst (λ (m : LoadedMessage). IsStepOf rules loaded user moment (post_of draft) (λ texts. Posted number) (PostedBehind m neighbour)) (sym made)
    (subst (λ (n : ℕ). IsStepOf rules loaded user moment (post_of draft) (λ texts. Posted n) (PostedBehind posted neighbour)) (sym next) (record {
      step = λ texts sized. post_way texts rules loaded user moment draft neighbour accepted sound sized there;
      fits = (fits, there.fits);
      sound = post_keeps_sound rules loaded posted (parent_behind loaded draft.reply_to) (next_of loaded) neighbour fits sound there;
      kind = tt;
      text = refl;
      idle = λ texts nothing. absurd (something (post_of draft) (Posted (next_of loaded)) refl (λ look. look) (λ links. cc) nothing);
      told = λ texts. tt;
      named = λ texts. refl;
    }))

-- a loaded message of these parts
abbrev pub loaded_with : ℕ → Head → List Subfield → ℕ → ℕ → ℕ → LoadedMessage
loaded_with owner head subfields header_at text_at text_len =
    record { owner = owner; head = head; subfields = subfields; header_at = header_at; text_at = text_at; text_len = text_len }
