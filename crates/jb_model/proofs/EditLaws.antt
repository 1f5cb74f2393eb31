-- Whatever an edit is answered with, it changes nothing but its message.
use Rattle.std.proofs.Common.{◌≡◌, ℕ, List, Option, Some, None, refl}
use Rattle.std.proofs.lemmas.Bool.{cond_both}
use Rattle.jb_base.specs.Access.{first_refusal}
use Rattle.jb_base.specs.declared.area.Action.TheVariants.{List as Listing, Edit as Editing}
use Rattle.jb_base.specs.declared.area.AreaRules.{AreaRules}
use Rattle.jb_base.specs.declared.area.Rule.{Rule}
use Rattle.jb_base.specs.declared.user.User.{User}
use Rattle.jb_model.specs.Answered.{Answered, unless_denied, unless_refused, with_message}
use Rattle.jb_model.specs.Edit.{edit_by, edit_done, edit_refusal, edit_step, new_subject}
use Rattle.jb_model.specs.Post.{parts_refusal}
use Rattle.jb_model.specs.declared.reply.Reply.{Reply}
use Rattle.jb_state.proofs.EditLaws.{edited_alone, nothing_edited}
use Rattle.jb_state.specs.Edited.{EditsAlone, edited}
use Rattle.jb_state.specs.Live.{message_at}
use Rattle.jb_state.specs.Message.{envelope_of}
use Rattle.jb_state.specs.State.{AreaState, LiveMessage}
use Rattle.jb_state.specs.Visible.{if_shown, is_shown, visible_at}

-- an answer leaves all but the message of this number
abbrev pub LeavesOthers : ℕ → AreaState → Answered → Type 0
LeavesOthers number state answered = EditsAlone number state answered.state

-- through the rules
denied_leaves : (number : ℕ) (state : AreaState) (rule : Option Rule) (rest : Answered) → LeavesOthers number state rest → LeavesOthers number state (unless_denied state rule rest)
denied_leaves number state (Some rule) rest leaves = nothing_edited number state
denied_leaves number state None rest leaves = leaves

-- through other refusals
refused_leaves : (number : ℕ) (state : AreaState) (found : Option Reply) (rest : Answered) → LeavesOthers number state rest → LeavesOthers number state (unless_refused state found rest)
refused_leaves number state (Some reply) rest leaves = nothing_edited number state
refused_leaves number state None rest leaves = leaves

-- through the message that a number names, where the user sees it
message_leaves : (rules : AreaRules) (state : AreaState) (user : User) (number : ℕ) (found : Option LiveMessage) (act : LiveMessage → Answered) → ((message : LiveMessage) → found ≡ Some message → LeavesOthers number state (act message)) → LeavesOthers number state (with_message state number (if_shown rules user found) act)
message_leaves rules state user number None act leaves = nothing_edited number state
message_leaves rules state user number (Some message) act leaves =
    cond_both (is_shown rules user message) (Some message) None (λ (shown : Option LiveMessage). LeavesOthers number state (with_message state number shown act))
    (λ shown. leaves message refl) (λ hidden. nothing_edited number state)

-- an edit, done or refused, leaves all but its message
pub edit_alone : (rules : AreaRules) (state : AreaState) (user : User) (number : ℕ) (subject text : List ℕ) → EditsAlone number state (edit_step rules state user number subject text).state
edit_alone rules state user number subject text =
    let act : LiveMessage → Answered = edit_by rules state user number subject text in
    denied_leaves number state (first_refusal user rules Listing None) (with_message state number (visible_at rules user state number) act)
    (message_leaves rules state user number (message_at state number) act
    (λ message is. let now : LiveMessage = edited subject text message in
    let done : Answered = edit_done state number now in
    let room : Answered = unless_refused state (edit_refusal state now) done in
    denied_leaves number state (first_refusal user rules Editing (Some (envelope_of message))) (unless_refused state (parts_refusal (new_subject subject message) text) room)
    (refused_leaves number state (parts_refusal (new_subject subject message) text) room
    (refused_leaves number state (edit_refusal state now) done (edited_alone state number subject text message is)))))
