-- The ways through an edit.
use Rattle.std.proofs.Common.{◌≡◌, inr, ℕ, ◌+◌, ◌-◌, ◌%◌, ◌^◌, ◌≤◌, nat_lt, List, [], ◌++◌, length, Some, None, refl, sym, ◌∙◌, ap, subst, arith}
use Rattle.std.specs.Prelude.{bit_and}
use Rattle.jb_base.specs.Access.{first_refusal}
use Rattle.jb_base.specs.declared.area.Action.TheVariants.{List as Listing, Edit as Editing}
use Rattle.jb_base.specs.declared.area.AreaRules.{AreaRules}
use Rattle.jb_base.specs.declared.area.Rule.{Rule}
use Rattle.jb_base.specs.declared.attribute.TheConstants.{DELETED}
use Rattle.jb_base.specs.declared.user.User.{User}
use Rattle.jb_bytes.specs.Subfields.{subfield_bytes}
use Rattle.jb_limits.specs.declared.limits.TheConstants.{MOST_SUBFIELD_BYTES}
use Rattle.jb_model.proofs.RangeLaws.{HasRoomAnew, fit_parts, room_anew}
use Rattle.jb_model.specs.Answered.{Answered, unless_refused, with_message}
use Rattle.jb_model.specs.Edit.{edit_by, edit_done, edit_refusal, edit_step, new_subject}
use Rattle.jb_model.specs.Post.{parts_refusal}
use Rattle.jb_model.specs.declared.command.Command.TheVariants.{Edit}
use Rattle.jb_model.specs.declared.reply.Reply.{Reply}
use Rattle.jb_model.specs.declared.reply.Reply.TheVariants.{Denied, NoMessage, SubfieldsFull, Edited as EditedReply}
use Rattle.jb_state.specs.Change.{FitsAnew, live_messages, loaded_counted}
use Rattle.jb_state.specs.Edited.{with_subject}
use Rattle.jb_state.specs.Live.{counted}
use Rattle.jb_state.specs.Loaded.{with_message_anew}
use Rattle.jb_state.specs.Sound.{IsMessageWithin, IsSound}
use Rattle.jb_state.specs.State.{AreaState, LiveMessage, state_of, with_text}
use Rattle.jb_state.specs.Visible.{visible_at}
use Rattle.jb_state.specs.declared.change.Change.TheVariants.{Edited as EditedAt}
use Rattle.jb_state.specs.declared.loaded.Loaded.{Loaded}
use Rattle.jb_state.specs.declared.loaded.LoadedMessage.{LoadedMessage}
use Rattle.jb_state.specs.declared.loaded.LoadedSlot.TheVariants.{Live}
use Rattle.jb_state.specs.declared.message.Head.{Head}
use Rattle.jb_decide.specs.Draft.{message_anew}
use Rattle.jb_decide.specs.Refusal.{IsRefusal}
use Rattle.jb_decide.specs.Room.{anew_refusal}
use Rattle.jb_decide.specs.Seen.{IsNamed, loaded_envelope, seen_at}
use Rattle.jb_decide.specs.StepOf.{IsStepOf}
use Rattle.jb_decide.proofs.AnewLemmas.{replaced, sound_anew, state_anew}
use Rattle.jb_decide.proofs.CountLemmas.{counted_now}
use Rattle.jb_decide.proofs.PostLemmas.{refuses_files, refuses_parts, refuses_then}
use Rattle.jb_decide.proofs.SoundLemmas.{slot_within, sound_counted}
use Rattle.jb_decide.proofs.StateLemmas.{accepted_way, allowed_way, answer, denied_way, message_way, none_way, refused_way, visible_found, visible_none}
use Rattle.jb_decide.proofs.StepLemmas.{something}

-- the message as it is edited
abbrev pub edited_live : List ℕ → List ℕ → LoadedMessage → LiveMessage
edited_live subject text message = record { owner = message.owner; head = message.head; subfields = with_subject subject message.subfields; text = text }

-- what the edit brings of the subject
abbrev pub brought : List ℕ → LoadedMessage → List ℕ
brought subject message = new_subject subject (with_text [] message)

-- what follows the first rule
abbrev seen_rest : AreaRules → AreaState → User → ℕ → List ℕ → List ℕ → Answered
seen_rest rules state user number subject text = with_message state number (visible_at rules user state number) (edit_by rules state user number subject text)

-- what follows the rules and the limits of the parts
abbrev room_rest : AreaState → ℕ → LiveMessage → Answered
room_rest state number message = unless_refused state (edit_refusal state message) (edit_done state number message)

-- what follows the rules
abbrev parts_rest : AreaState → ℕ → List ℕ → List ℕ → LoadedMessage → Answered
parts_rest state number subject text message =
    unless_refused state (parts_refusal (brought subject message) text) (room_rest state number (edited_live subject text message))

-- the user may do nothing with messages
pub edit_denied : (rules : AreaRules) (loaded : Loaded) (user : User) (number : ℕ) (subject text : List ℕ) (rule : Rule) → first_refusal user rules Listing None ≡ Some rule
    → IsRefusal rules loaded user (Edit number subject text) (Denied rule)
edit_denied rules loaded user number subject text rule denied = record {
  refusal = refl;
  step = λ texts moment. denied_way (state_of texts loaded) (first_refusal user rules Listing None) rule (seen_rest rules (state_of texts loaded) user number subject text) denied;
}

-- the user sees no such message
pub edit_unseen : (rules : AreaRules) (loaded : Loaded) (user : User) (number : ℕ) (subject text : List ℕ) → first_refusal user rules Listing None ≡ None
    → seen_at rules user loaded number ≡ None → IsRefusal rules loaded user (Edit number subject text) (NoMessage number)
edit_unseen rules loaded user number subject text listed unseen = record {
  refusal = refl;
  step = λ texts moment.
      let state : AreaState = state_of texts loaded in
      allowed_way state (first_refusal user rules Listing None) (seen_rest rules state user number subject text) listed
      ∙ none_way state number (visible_at rules user state number) (edit_by rules state user number subject text) (visible_none texts rules user loaded number unseen);
}

-- up to the rule on edits
to_rule : (texts : List ℕ) (rules : AreaRules) (loaded : Loaded) (user : User) (number : ℕ) (subject text : List ℕ) (message : LoadedMessage)
    → first_refusal user rules Listing None ≡ None → seen_at rules user loaded number ≡ Some message
    → edit_step rules (state_of texts loaded) user number subject text ≡ edit_by rules (state_of texts loaded) user number subject text (with_text texts message)
to_rule texts rules loaded user number subject text message listed seen =
    let state : AreaState = state_of texts loaded in
    allowed_way state (first_refusal user rules Listing None) (seen_rest rules state user number subject text) listed
    ∙ message_way state number (visible_at rules user state number) (with_text texts message) (edit_by rules state user number subject text)
    (visible_found texts rules user loaded number message seen)

-- the user is not the message's sender
pub edit_forbidden : (rules : AreaRules) (loaded : Loaded) (user : User) (number : ℕ) (subject text : List ℕ) (message : LoadedMessage) (rule : Rule)
    → first_refusal user rules Listing None ≡ None → seen_at rules user loaded number ≡ Some message
    → first_refusal user rules Editing (Some (loaded_envelope message)) ≡ Some rule → IsRefusal rules loaded user (Edit number subject text) (Denied rule)
edit_forbidden rules loaded user number subject text message rule listed seen denied = record {
  refusal = refl;
  step = λ texts moment. to_rule texts rules loaded user number subject text message listed seen
      ∙ denied_way (state_of texts loaded) (first_refusal user rules Editing (Some (loaded_envelope message))) rule
      (parts_rest (state_of texts loaded) number subject text message) denied;
}

-- the user sees the message and may edit it
pub record MayEdit (rules : AreaRules) (loaded : Loaded) (user : User) (number : ℕ) (message : LoadedMessage) : Type 0 where
  pub listed : first_refusal user rules Listing None ≡ None
  pub seen : seen_at rules user loaded number ≡ Some message
  pub allowed : first_refusal user rules Editing (Some (loaded_envelope message)) ≡ None

-- up to the limits of the parts
to_parts : (texts : List ℕ) (rules : AreaRules) (loaded : Loaded) (user : User) (number : ℕ) (subject text : List ℕ) (message : LoadedMessage) → MayEdit rules loaded user number message
    → edit_step rules (state_of texts loaded) user number subject text ≡ parts_rest (state_of texts loaded) number subject text message
to_parts texts rules loaded user number subject text message may =
    to_rule texts rules loaded user number subject text message may.listed may.seen
    ∙ allowed_way (state_of texts loaded) (first_refusal user rules Editing (Some (loaded_envelope message))) (parts_rest (state_of texts loaded) number subject text message) may.allowed

-- a part is too long
pub edit_long : (rules : AreaRules) (loaded : Loaded) (user : User) (number : ℕ) (subject text : List ℕ) (message : LoadedMessage) (reply : Reply) → MayEdit rules loaded user number message
    → parts_refusal (brought subject message) text ≡ Some reply → IsRefusal rules loaded user (Edit number subject text) reply
edit_long rules loaded user number subject text message reply may long = record {
  refusal = refuses_parts (brought subject message) text reply long;
  step = λ texts moment.
      to_parts texts rules loaded user number subject text message may
      ∙ refused_way (state_of texts loaded) (parts_refusal (brought subject message) text) reply
      (room_rest (state_of texts loaded) number (edited_live subject text message)) long;
}

-- up to the room
to_room : (texts : List ℕ) (rules : AreaRules) (loaded : Loaded) (user : User) (number : ℕ) (subject text : List ℕ) (message : LoadedMessage) → MayEdit rules loaded user number message
    → parts_refusal (brought subject message) text ≡ None
    → edit_step rules (state_of texts loaded) user number subject text ≡ room_rest (state_of texts loaded) number (edited_live subject text message)
to_room texts rules loaded user number subject text message may short =
    to_parts texts rules loaded user number subject text message may
    ∙ accepted_way (state_of texts loaded) (parts_refusal (brought subject message) text) (room_rest (state_of texts loaded) number (edited_live subject text message)) short

-- there is no room
pub edit_full : (rules : AreaRules) (loaded : Loaded) (user : User) (number : ℕ) (subject text : List ℕ) (message : LoadedMessage) (reply : Reply) → MayEdit rules loaded user number message
    → parts_refusal (brought subject message) text ≡ None → anew_refusal loaded (with_subject subject message.subfields) (length text) ≡ Some reply
    → IsRefusal rules loaded user (Edit number subject text) reply
edit_full rules loaded user number subject text message reply may short full =
    let size : ℕ = length (subfield_bytes (with_subject subject message.subfields)) in
    record {
      refusal = refuses_then (nat_lt MOST_SUBFIELD_BYTES size) (SubfieldsFull size) _ reply refl (refuses_files loaded (76 + size) (length text) reply) full;
      step = λ texts moment.
          let live : LiveMessage = edited_live subject text message in
          to_room texts rules loaded user number subject text message may short
          ∙ refused_way (state_of texts loaded) (edit_refusal (state_of texts loaded) live) reply (edit_done (state_of texts loaded) number live) full;
    }

-- nothing refuses the edit
pub record IsAccepted (rules : AreaRules) (loaded : Loaded) (user : User) (number : ℕ) (subject text : List ℕ) (message : LoadedMessage) : Type 0 where
  pub may : MayEdit rules loaded user number message
  pub short : parts_refusal (brought subject message) text ≡ None
  pub room : anew_refusal loaded (with_subject subject message.subfields) (length text) ≡ None

-- the edit is done
edit_way : (texts : List ℕ) (rules : AreaRules) (loaded : Loaded) (user : User) (number place : ℕ) (subject text : List ℕ) (message : LoadedMessage)
    → IsAccepted rules loaded user number subject text message → IsNamed loaded number place message → IsSound rules.slots loaded → length texts ≡ loaded.texts_len
    → edit_step rules (state_of texts loaded) user number subject text
    ≡ answer (EditedReply number) (state_of (texts ++ text) (loaded_counted (with_message_anew place (message_anew loaded message subject text) loaded)))
edit_way texts rules loaded user number place subject text message accepted named sound is =
    let state : AreaState = state_of texts loaded in
    let live : LiveMessage = edited_live subject text message in
    let anew : LoadedMessage = message_anew loaded message subject text in
    to_room texts rules loaded user number subject text message accepted.may accepted.short
    ∙ accepted_way state (edit_refusal state live) (edit_done state number live) accepted.room
    ∙ ap (λ (k : ℕ). answer (EditedReply number) (counted (replaced state live k))) (sym named.placed)
    ∙ ap (λ (s : AreaState). answer (EditedReply number) (counted s)) (sym (state_anew rules.slots texts text loaded place anew sound is refl refl))
    ∙ ap (answer (EditedReply number)) (sym (counted_now (texts ++ text) (with_message_anew place anew loaded)))

-- there is a place for the message
edit_fits : (rules : AreaRules) (loaded : Loaded) (user : User) (number place : ℕ) (subject text : List ℕ) (message : LoadedMessage)
    → IsAccepted rules loaded user number subject text message → IsNamed loaded number place message → FitsAnew place (message_anew loaded message subject text) loaded
edit_fits rules loaded user number place subject text message accepted named =
    let room : HasRoomAnew (state_of [] loaded) (edited_live subject text message) = room_anew (state_of [] loaded) (edited_live subject text message) accepted.room in
    let parts = fit_parts (brought subject message) text accepted.short in
    record {
      was = message;
      here = named.here;
      owner = refl;
      head = refl;
      subject = subject;
      subfields = refl;
      header_at = refl;
      text_at = refl;
      headers = room.files.headers;
      texts = room.files.texts;
      few_bytes = room.few_bytes;
      short = omega (arith, parts.text_short);
    }

-- the area stays sound
edit_keeps_sound : (limit : ℕ) (loaded : Loaded) (place : ℕ) (anew : LoadedMessage) → FitsAnew place anew loaded → IsSound limit loaded
    → IsSound limit (loaded_counted (with_message_anew place anew loaded))
edit_keeps_sound limit loaded place anew fits sound =
    let was : IsMessageWithin loaded.headers_len loaded.texts_len fits.was = slot_within limit loaded place (Live fits.was) fits.here sound in
    let after : Loaded = with_message_anew place anew loaded in
    let before : 1024 ≤ loaded.headers_len = sound.fixed in
    let header_at : anew.header_at ≡ loaded.headers_len = fits.header_at in
    let text_at : anew.text_at ≡ loaded.texts_len = fits.text_at in
    let headers = fits.headers in
    let texts = fits.texts in
    sound_counted limit after ((after.counter + 1) % 2 ^ 32) (live_messages after)
    (sound_anew limit loaded place fits.was anew sound fits.here header_at (record {
      live = ap (λ (h : Head). bit_and h.attribute DELETED) fits.head ∙ was.live;
      few_bytes = fits.few_bytes;
      header = record { after = omega (arith, header_at, before); inside = omega (arith, header_at); below = omega (arith, headers, header_at) };
      text = record { short = fits.short; placed = inr (omega (arith, text_at), omega (arith, texts, text_at)) };
    }))

-- an edit that nothing refuses
pub edit_is : (rules : AreaRules) (loaded : Loaded) (user : User) (moment number place : ℕ) (subject text : List ℕ) (message anew : LoadedMessage)
    → IsAccepted rules loaded user number subject text message → IsNamed loaded number place message → anew ≡ message_anew loaded message subject text → IsSound rules.slots loaded
    → IsStepOf rules loaded user moment (Edit number subject text) (λ texts. EditedReply number) (EditedAt place anew)
edit_is rules loaded user moment number place subject text message anew accepted named made sound =
    let there : LoadedMessage = message_anew loaded message subject text in
    let fits : FitsAnew place there loaded = edit_fits rules loaded user number place subject text message accepted named in
    let is : number ≡ loaded.base + place = omega (arith, named.low, named.placed) in
    subst (λ (m : LoadedMessage). IsStepOf rules loaded user moment (Edit number subject text) (λ texts. EditedReply number) (EditedAt place m)) (sym made) (record {
      step = λ texts sized. edit_way texts rules loaded user number place subject text message accepted named sound sized;
      fits = fits;
      sound = edit_keeps_sound rules.slots loaded place there fits sound;
      kind = tt;
      text = refl;
      idle = λ texts nothing. absurd (something (Edit number subject text) (EditedReply number) refl (λ look. look) (λ links. cc) nothing);
      told = λ texts. tt;
      named = λ texts. ap (λ (n : ℕ). EditedReply n) is;
    })
