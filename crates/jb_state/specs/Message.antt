-- What a message says of itself: its parties, its ids and its letter (JAM, "SubFields").
use Rattle.std.specs.Prelude.{ℕ, ◌+◌, List, [], Option, unwrap_or, length}
use Rattle.jb_base.specs.Access.{Envelope}
use Rattle.jb_bytes.specs.Subfields.{first_of, sender_of, receiver_of, subfield_bytes}
use Rattle.jb_bytes.specs.declared.subfield.Subfield.{Subfield}
use Rattle.jb_bytes.specs.declared.subfield.TheConstants.{MSGID, REPLYID, SUBJECT}
use Rattle.jb_state.specs.State.{LiveMessage}

-- the subject; without one, empty
abbrev pub subject_of : List Subfield → List ℕ
subject_of fields = unwrap_or (first_of SUBJECT fields) []

-- the message's own id, where it has one
abbrev pub msgid_of : List Subfield → Option (List ℕ)
msgid_of fields = first_of MSGID fields

-- the id of the message that it answers, where it has one
abbrev pub replyid_of : List Subfield → Option (List ℕ)
replyid_of fields = first_of REPLYID fields

-- what the rules of an area look at
abbrev pub envelope_of : LiveMessage → Envelope
envelope_of message =
    record { sender = sender_of message.subfields; receiver = receiver_of message.subfields; attribute = message.head.attribute }

-- the bytes of .JHR that the message takes: its header and its subfields
abbrev pub header_length : LiveMessage → ℕ
header_length message = 76 + length (subfield_bytes message.subfields)
