-- An edited message, as the plain program holds it.
use Rattle.std.proofs.Common.{◌≡◌, ℕ, List, [], Option, ap, ◌∙◌, arith}
use Rattle.std.specs.Prelude.{unwrap_or}
use Rattle.jb_bytes.specs.Crc.{jam_crc_of}
use Rattle.jb_bytes.specs.declared.subfield.Subfield.{Subfield}
use Rattle.jb_bytes.specs.declared.subfield.TheConstants.{RECEIVER_NAME}
use Rattle.jb_state.proofs.EditLaws.{with_subject-other}
use Rattle.jb_state.specs.Edited.{edited, with_subject}
use Rattle.jb_state.specs.State.{LiveMessage}
use Rattle.jb_state.specs.Tight.{owned}
use Rattle.jb_state.specs.declared.area.Message.{Message}

-- a message with other subfields and another text
abbrev made_of : Message → List Subfield → List ℕ → Message
made_of message fields text = record { head = message.head; subfields = fields; text = text }

-- a message under the CRC of this name
abbrev owned_by : Option (List ℕ) → Message → LiveMessage
owned_by to message =
    record { owner = jam_crc_of (unwrap_or to []); head = message.head; subfields = message.subfields; text = message.text }

-- a message with these subfields and this text is the edited one; the UserCRC is that of its receiver, which stays
pub edited_owned : (subject text : List ℕ) (message : Message) (fields : List Subfield) (bytes : List ℕ) → fields ≡ with_subject subject message.subfields → bytes ≡ text
    → owned (record { head = message.head; subfields = fields; text = bytes }) ≡ edited subject text (owned message)
edited_owned subject text message fields bytes named same =
    ap (λ (l : List Subfield). owned (made_of message l bytes)) named
    ∙ ap (λ (l : List ℕ). owned (made_of message (with_subject subject message.subfields) l)) same
    ∙ ap (λ to. owned_by to (made_of message (with_subject subject message.subfields) text))
    (with_subject-other RECEIVER_NAME subject message.subfields (λ e. omega arith))
