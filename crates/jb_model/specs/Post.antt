-- A message is posted.
use Rattle.std.specs.Prelude.{ℕ, zero, suc, ◌+◌, ◌-◌, ◌*◌, ◌/◌, ◌%◌, ◌^◌, min, nat_lt, nat_le, Bool, not, ◌&&◌, ◌==◌, List, [], ◌∷◌, ◌++◌, Option, Some, None, is_none, option_to_list, length, map, if◌then◌else◌}
use Rattle.std.specs.Char.{digit_char}
use Rattle.jb_base.specs.Access.{first_refusal}
use Rattle.jb_bytes.specs.Crc.{jam_crc_of}
use Rattle.jb_base.specs.declared.area.Action.TheVariants.{Post as Posting}
use Rattle.jb_base.specs.declared.area.AreaRules.{AreaRules}
use Rattle.jb_base.specs.declared.area.Kind.{Kind}
use Rattle.jb_base.specs.declared.area.Kind.TheVariants.{Local, Echo}
use Rattle.jb_base.specs.declared.attribute.TheConstants.{LOCAL, PRIVATE, TYPELOCAL, TYPEECHO}
use Rattle.jb_limits.specs.declared.limits.TheConstants.{HEADERS_CEILING, LAST_POSTED_NUMBER, MOST_NAME_BYTES, MOST_POSTED_TEXT_BYTES, MOST_SUBJECT_BYTES, TEXTS_CEILING}
use Rattle.jb_bytes.specs.declared.subfield.Subfield.{Subfield}
use Rattle.jb_bytes.specs.declared.subfield.TheConstants.{SENDER_NAME, RECEIVER_NAME, MSGID, REPLYID, SUBJECT}
use Rattle.jb_base.specs.declared.user.User.{User}
use Rattle.jb_model.specs.Answered.{Answered, unless_denied, unless_refused}
use Rattle.jb_state.specs.Message.{header_length}
use Rattle.jb_state.specs.State.{AreaState, LiveMessage, next_number}
use Rattle.jb_state.specs.Visible.{visible_at}
use Rattle.jb_model.specs.declared.command.Field.TheVariants.{To, Subject, Text}
use Rattle.jb_state.specs.declared.message.Head.{Head}
use Rattle.jb_model.specs.declared.reply.Reply.{Reply}
use Rattle.jb_model.specs.declared.reply.Reply.TheVariants.{EmptyName, HeadersFull, NoMessage, NumbersSpent, Posted, SlotsFull, TextFull, TooLong}
use Rattle.jb_state.specs.Posted.{posted_replyid, posted_state, posted_parent}

-- what the user wrote, to whom, in reply to which number or to 0, and whether it is private
pub record Draft : Type 0 where
  pub to : List ℕ
  pub subject : List ℕ
  pub text : List ℕ
  pub reply_to : ℕ
  pub private : Bool

-- a subject or a text is too long
abbrev pub parts_refusal : List ℕ → List ℕ → Option Reply
parts_refusal subject text =
    if nat_lt MOST_SUBJECT_BYTES (length subject) then Some (TooLong Subject (length subject))
    else if nat_lt MOST_POSTED_TEXT_BYTES (length text) then Some (TooLong Text (length text))
    else None

-- a part of the draft is empty or too long
abbrev pub draft_refusal : Draft → Option Reply
draft_refusal draft =
    if length draft.to == 0 then Some (EmptyName To)
    else if nat_lt MOST_NAME_BYTES (length draft.to) then Some (TooLong To (length draft.to))
    else parts_refusal draft.subject draft.text

-- the draft answers a message that the user does not see
abbrev pub answer_refusal : AreaRules → AreaState → User → Draft → Option Reply
answer_refusal rules state user draft =
    if not (draft.reply_to == 0) && is_none (visible_at rules user state draft.reply_to) then Some (NoMessage draft.reply_to) else None

-- a length in bytes as a reply tells it: the greatest number of eight bytes where it is larger
abbrev pub told_length : ℕ → ℕ
told_length len = min len (2 ^ 64 - 1)

-- the files have no room for this message
abbrev pub files_refusal : AreaState → LiveMessage → Option Reply
files_refusal state message =
    if nat_lt HEADERS_CEILING (state.headers_len + header_length message)
    then Some (HeadersFull (told_length (state.headers_len + header_length message)))
    else if nat_lt TEXTS_CEILING (state.texts_len + length message.text)
    then Some (TextFull (told_length (state.texts_len + length message.text)))
    else None

-- the area has no further number, no slot, or no room in its files for this message
abbrev pub room_refusal : AreaRules → AreaState → LiveMessage → Option Reply
room_refusal rules state message =
    if nat_lt LAST_POSTED_NUMBER (next_number state) then Some (NumbersSpent (next_number state))
    else if nat_le rules.slots (length state.slots) then Some (SlotsFull rules.slots)
    else files_refusal state message

-- so many digits of a number in base 16, in lower case, the lowest last
abbrev pub hex_digits : ℕ → ℕ → List ℕ
hex_digits zero number = []
hex_digits (suc width) number = hex_digits width (number / 16) ++ digit_char (number % 16) ∷ []

-- the MSGID of a posted message: the area's address, a space, and a serial of the area's ordinal and the number
abbrev pub posted_msgid : AreaRules → ℕ → List ℕ
posted_msgid rules number = rules.address ++ 32 ∷ hex_digits 8 (rules.ordinal * 2 ^ 24 + number)

-- the attribute bit of an area's kind
abbrev pub kind_attribute : Kind → ℕ
kind_attribute Local = TYPELOCAL
kind_attribute Echo = TYPEECHO

-- LOCAL and the area's kind, and PRIVATE where it is asked
abbrev pub posted_attribute : AreaRules → Bool → ℕ
posted_attribute rules private = LOCAL + kind_attribute rules.kind + (if private then PRIVATE else 0)

-- the CRC of an id, all bits set where there is none
abbrev pub id_crc : Option (List ℕ) → ℕ
id_crc None = 0xFFFFFFFF
id_crc (Some id) = jam_crc_of id

-- a subfield with HiID 0
abbrev pub plain_field : ℕ → List ℕ → Subfield
plain_field id bytes = record { id = id; hi = 0; bytes = bytes }

-- the subfields of a posted message with these ids, in their order
abbrev pub fields_with : User → Draft → List ℕ → Option (List ℕ) → List Subfield
fields_with user draft msgid replyid =
    (plain_field SENDER_NAME user.name ∷ plain_field RECEIVER_NAME draft.to ∷ plain_field MSGID msgid ∷ [])
    ++ map (plain_field REPLYID) (option_to_list replyid)
    ++ plain_field SUBJECT draft.subject ∷ []

-- the subfields of the message that is posted
abbrev pub posted_subfields : AreaRules → AreaState → User → Draft → List Subfield
posted_subfields rules state user draft =
    fields_with user draft (posted_msgid rules (next_number state)) (posted_replyid state draft.reply_to)

-- the header's fields of a posted message with these ids and this parent: it is local, and unread
abbrev pub head_with : AreaRules → ℕ → Draft → List ℕ → Option (List ℕ) → ℕ → Head
head_with rules moment draft msgid replyid parent = record {
  reserved = 0;
  times_read = 0;
  msgid_crc = jam_crc_of msgid;
  reply_crc = id_crc replyid;
  reply_to = parent;
  reply_first = 0;
  reply_next = 0;
  written = moment;
  received = 0;
  processed = 0;
  attribute = posted_attribute rules draft.private;
  attribute2 = 0;
  password = 0xFFFFFFFF;
  cost = 0;
}

-- its header's fields
abbrev pub posted_head : AreaRules → AreaState → ℕ → Draft → Head
posted_head rules state moment draft =
    head_with rules moment draft (posted_msgid rules (next_number state)) (posted_replyid state draft.reply_to) (posted_parent state draft.reply_to)

-- the message that is posted, under the CRC of its receiver's name
abbrev pub posted_message : AreaRules → AreaState → User → ℕ → Draft → LiveMessage
posted_message rules state user moment draft = record {
  owner = jam_crc_of draft.to;
  head = posted_head rules state moment draft;
  subfields = posted_subfields rules state user draft;
  text = draft.text;
}

-- the message has the next number
abbrev pub post_done : AreaState → LiveMessage → Answered
post_done state message = record { reply = Posted (next_number state); state = posted_state state message }

-- a post of this draft
abbrev pub post_step : AreaRules → AreaState → User → ℕ → Draft → Answered
post_step rules state user moment draft =
    unless_denied state (first_refusal user rules Posting None)
    (unless_refused state (draft_refusal draft)
    (unless_refused state (answer_refusal rules state user draft)
    (unless_refused state (room_refusal rules state (posted_message rules state user moment draft))
    (post_done state (posted_message rules state user moment draft)))))
