-- What an edit that was answered leaves but its message.
use Rattle.std.proofs.Common.{◌≡◌, ℕ, ◌+◌, List, Option, None, Some, Result, Ok, Err, OnOk, ap, sym, ◌∙◌, subst, length}
use Rattle.std.specs.Prelude.{nat_lt, if◌then◌else◌}
use Rattle.std.proofs.lemmas.Bool.{cond_both}
use Rattle.jb_base.specs.Access.{first_refusal}
use Rattle.jb_base.specs.declared.area.Action.TheVariants.{List as Listing, Edit as Editing}
use Rattle.jb_base.specs.declared.area.AreaRules.{AreaRules}
use Rattle.jb_base.specs.declared.area.Rule.{Rule}
use Rattle.jb_base.specs.declared.user.User.{User}
use Rattle.jb_bytes.specs.Subfields.{subfield_bytes}
use Rattle.jb_decide.specs.Decided.{IsTold}
use Rattle.jb_decide.specs.declared.error.AreaError.{AreaError}
use Rattle.jb_disk.specs.Device.{Device}
use Rattle.jb_limits.specs.declared.limits.TheConstants.{HEADERS_CEILING, MOST_POSTED_TEXT_BYTES, MOST_SUBFIELD_BYTES, MOST_SUBJECT_BYTES, TEXTS_CEILING}
use Rattle.jb_model.proofs.EditLaws.{edit_alone}
use Rattle.jb_model.specs.Answered.{Answered, unless_denied, unless_refused, with_message}
use Rattle.jb_model.specs.Edit.{edit_by, edit_done, edit_refusal, edit_step, new_subject}
use Rattle.jb_model.specs.Post.{files_refusal, parts_refusal, told_length}
use Rattle.jb_model.specs.declared.command.Command.TheVariants.{Edit}
use Rattle.jb_model.specs.declared.command.Field.TheVariants as field
use Rattle.jb_model.specs.declared.reply.Letter.{Letter}
use Rattle.jb_model.specs.declared.reply.Reply.{Reply}
use Rattle.jb_model.specs.declared.reply.Reply.TheVariants.{HeadersFull, SubfieldsFull, Text, TextFull, TooLong}
use Rattle.jb_state.specs.Edited.{EditsAlone, edited}
use Rattle.jb_state.specs.Message.{envelope_of, header_length}
use Rattle.jb_state.specs.State.{AreaState, LiveMessage, state_of}
use Rattle.jb_state.specs.Visible.{visible_at}
use Rattle.jb_state.specs.declared.loaded.Loaded.{Loaded}
use Rattle.jb_area.specs.Area.{IsResting}
use Rattle.jb_area.specs.Calls.{HasAnswered, HasEditedAlone, MeetsCall}
use Rattle.jb_area.specs.declared.area.OpenArea.{OpenArea}

-- an answer that is no letter
abbrev ShowsNone : Answered → Type 0
ShowsNone answered = (letter : Letter) → answered.reply ≡ Text letter → ⊥

-- a refusal, where there is one, that is no letter
abbrev IsNoLetter : Option Reply → Type 0
IsNoLetter found = (letter : Letter) → found ≡ Some (Text letter) → ⊥

-- through the rules
denied_shows : (state : AreaState) (rule : Option Rule) (rest : Answered) → ShowsNone rest → ShowsNone (unless_denied state rule rest)
denied_shows state (Some rule) rest none = λ letter is. cc
denied_shows state None rest none = none

-- through other refusals
refused_shows : (state : AreaState) (found : Option Reply) (rest : Answered) → IsNoLetter found → ShowsNone rest → ShowsNone (unless_refused state found rest)
refused_shows state (Some reply) rest other none = λ letter is. other letter (ap (λ (r : Reply). Some r) is)
refused_shows state None rest other none = none

-- through the message that a number names
message_shows : (state : AreaState) (number : ℕ) (found : Option LiveMessage) (act : LiveMessage → Answered) → ((message : LiveMessage) → ShowsNone (act message)) → ShowsNone (with_message state number found act)
message_shows state number None act none = λ letter is. cc
message_shows state number (Some message) act none = none message

-- no refusal
nothing : IsNoLetter None
nothing letter is = cc

-- a part that is too long is told by no letter
parts_no_letter : (subject text : List ℕ) → IsNoLetter (parts_refusal subject text)
parts_no_letter subject text =
    let text_long : Option Reply = Some (TooLong field.Text (length text)) in
    let subject_long : Option Reply = Some (TooLong field.Subject (length subject)) in
    let rest : Option Reply = if nat_lt MOST_POSTED_TEXT_BYTES (length text) then text_long else None in
    cond_both (nat_lt MOST_SUBJECT_BYTES (length subject)) subject_long rest IsNoLetter (λ e letter is. cc)
    (λ e. cond_both (nat_lt MOST_POSTED_TEXT_BYTES (length text)) text_long None IsNoLetter (λ e letter is. cc) (λ e. nothing))

-- nor is that the files have no room
files_no_letter : (state : AreaState) (message : LiveMessage) → IsNoLetter (files_refusal state message)
files_no_letter state message =
    let headers : ℕ = state.headers_len + header_length message in
    let texts : ℕ = state.texts_len + length message.text in
    let headers_full : Option Reply = Some (HeadersFull (told_length headers)) in
    let texts_full : Option Reply = Some (TextFull (told_length texts)) in
    let rest : Option Reply = if nat_lt TEXTS_CEILING texts then texts_full else None in
    cond_both (nat_lt HEADERS_CEILING headers) headers_full rest IsNoLetter (λ e letter is. cc)
    (λ e. cond_both (nat_lt TEXTS_CEILING texts) texts_full None IsNoLetter (λ e letter is. cc) (λ e. nothing))

-- nor that the header has none
edit_no_letter : (state : AreaState) (message : LiveMessage) → IsNoLetter (edit_refusal state message)
edit_no_letter state message =
    let bytes : ℕ = length (subfield_bytes message.subfields) in
    let full : Option Reply = Some (SubfieldsFull bytes) in
    cond_both (nat_lt MOST_SUBFIELD_BYTES bytes) full (files_refusal state message) IsNoLetter (λ e letter is. cc) (λ e. files_no_letter state message)

-- an edit is answered with no letter
edit_shows_none : (rules : AreaRules) (state : AreaState) (user : User) (number : ℕ) (subject text : List ℕ) → ShowsNone (edit_step rules state user number subject text)
edit_shows_none rules state user number subject text =
    let act : LiveMessage → Answered = edit_by rules state user number subject text in
    denied_shows state (first_refusal user rules Listing None) (with_message state number (visible_at rules user state number) act)
    (message_shows state number (visible_at rules user state number) act
    (λ message. let now : LiveMessage = edited subject text message in
    let done : Answered = edit_done state number now in
    let room : Answered = unless_refused state (edit_refusal state now) done in
    denied_shows state (first_refusal user rules Editing (Some (envelope_of message))) (unless_refused state (parts_refusal (new_subject subject message) text) room)
    (refused_shows state (parts_refusal (new_subject subject message) text) room (parts_no_letter (new_subject subject message) text)
    (refused_shows state (edit_refusal state now) done (edit_no_letter state now) (λ letter is. cc)))))

module _ {D : Type 0} (shown : D → Device) (old new : OpenArea D) (user : User) (moment number : ℕ) (subject text : List ℕ) where
  -- so its step is told by each disk, and it leaves all but the message
  answered_alone : (texts : List ℕ) (reply : Reply) → HasAnswered shown old new texts user moment (Edit number subject text) reply → HasEditedAlone shown number old new texts
  answered_alone texts reply answered =
      let other = answered.somewhere in
      let told : IsTold reply (shown old.disk).contents = λ letter is.
      absurd (edit_shows_none old.rules (state_of other.texts old.held) user number subject text letter (ap (λ (a : Answered). a.reply) other.step ∙ is)) in
      record {
        texts_now = answered.coming.texts;
        rests = answered.rests.rests;
        alone = subst (λ (l : Loaded). EditsAlone number (state_of texts old.held) (state_of answered.coming.texts l)) (sym answered.rests.is)
            (subst (EditsAlone number (state_of texts old.held)) (ap (λ (a : Answered). a.state) (answered.step told)) (edit_alone old.rules (state_of texts old.held) user number subject text));
      }

  -- what each call of it that is answered leaves
  pub edits_alone : (result : Result Reply AreaError) → MeetsCall shown old new user moment (Edit number subject text) result
      → OnOk result ((texts : List ℕ) → IsResting shown old texts → HasEditedAlone shown number old new texts)
  edits_alone (Ok reply) meets = λ texts resting. answered_alone texts reply (meets.answered texts resting)
  edits_alone (Err error) meets = tt
