-- A message gets another subject and another text.
use Rattle.std.specs.Prelude.{ℕ, nat_lt, List, [], Option, Some, None, length, bytes_eq, if◌then◌else◌}
use Rattle.jb_base.specs.Access.{first_refusal}
use Rattle.jb_base.specs.declared.area.Action.TheVariants.{List as Listing, Edit as Editing}
use Rattle.jb_base.specs.declared.area.AreaRules.{AreaRules}
use Rattle.jb_base.specs.declared.user.User.{User}
use Rattle.jb_bytes.specs.Subfields.{subfield_bytes}
use Rattle.jb_limits.specs.declared.limits.TheConstants.{MOST_SUBFIELD_BYTES}
use Rattle.jb_model.specs.Answered.{Answered, unless_denied, unless_refused, with_message}
use Rattle.jb_model.specs.Post.{files_refusal, parts_refusal}
use Rattle.jb_state.specs.Edited.{edited, edited_state}
use Rattle.jb_state.specs.Message.{envelope_of, subject_of}
use Rattle.jb_state.specs.State.{AreaState, LiveMessage}
use Rattle.jb_state.specs.Visible.{visible_at}
use Rattle.jb_model.specs.declared.reply.Reply.{Reply}
use Rattle.jb_model.specs.declared.reply.Reply.TheVariants.{Edited, SubfieldsFull}

-- the message has more bytes of subfields than a header may have, or the files have no room for it
abbrev pub edit_refusal : AreaState → LiveMessage → Option Reply
edit_refusal state message =
    if nat_lt MOST_SUBFIELD_BYTES (length (subfield_bytes message.subfields))
    then Some (SubfieldsFull (length (subfield_bytes message.subfields)))
    else files_refusal state message

-- what an edit brings of a subject: nothing, where the message has it already, however long it is
abbrev pub new_subject : List ℕ → LiveMessage → List ℕ
new_subject subject message = if bytes_eq subject (subject_of message.subfields) then [] else subject

-- the number names the message as it is edited
abbrev pub edit_done : AreaState → ℕ → LiveMessage → Answered
edit_done state number message = record { reply = Edited number; state = edited_state state number message }

-- an edit of this message, which the user sees
abbrev pub edit_by : AreaRules → AreaState → User → ℕ → List ℕ → List ℕ → LiveMessage → Answered
edit_by rules state user number subject text message =
    unless_denied state (first_refusal user rules Editing (Some (envelope_of message)))
    (unless_refused state (parts_refusal (new_subject subject message) text)
    (unless_refused state (edit_refusal state (edited subject text message))
    (edit_done state number (edited subject text message))))

-- an edit of the message that the number names, by its sender or the sysop
abbrev pub edit_step : AreaRules → AreaState → User → ℕ → List ℕ → List ℕ → Answered
edit_step rules state user number subject text =
    unless_denied state (first_refusal user rules Listing None)
    (with_message state number (visible_at rules user state number) (edit_by rules state user number subject text))
