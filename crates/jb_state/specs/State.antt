-- The state of an area: a numbered list of slots, with marks and the fields of the fixed header.
use Rattle.std.specs.Prelude.{◌≡◌, bit_and, ℕ, ◌+◌, ◌≤◌, List, length, take, drop, map, All}
use Rattle.jb_base.specs.declared.attribute.TheConstants.{DELETED}
use Rattle.jb_limits.specs.declared.limits.TheConstants.{MOST_MARKS, MOST_SUBFIELD_BYTES, MOST_TEXT_BYTES}
use Rattle.jb_bytes.specs.declared.subfield.Subfield.{Subfield}
use Rattle.jb_bytes.specs.Subfields.{subfield_bytes}
use Rattle.jb_state.specs.declared.loaded.Loaded.{Loaded}
use Rattle.jb_state.specs.declared.loaded.LoadedMessage.{LoadedMessage}
use Rattle.jb_state.specs.declared.loaded.LoadedSlot.{LoadedSlot}
use Rattle.jb_state.specs.declared.loaded.LoadedSlot.TheVariants.{Empty, Killed, Live}
use Rattle.jb_state.specs.declared.mark.Mark.{Mark}
use Rattle.jb_state.specs.declared.message.Head.{Head}

-- a live message, with the UserCRC of its index record and with its text
pub record LiveMessage : Type 0 where
  pub owner : ℕ
  pub head : Head
  pub subfields : List Subfield
  pub text : List ℕ

-- what a number names: nothing, a killed message or a live one
pub data SlotState : Type 0 where
  no_message : SlotState
  killed_message : SlotState
  live_message : LiveMessage → SlotState

-- an area, as its users and its tools see it; the slot at place i has the number base plus i
pub record AreaState : Type 0 where
  pub created : ℕ
  pub counter : ℕ
  pub active : ℕ
  pub password : ℕ
  pub reserved : List ℕ
  pub base : ℕ
  pub slots : List SlotState
  pub marks : List Mark
  pub headers_len : ℕ
  pub texts_len : ℕ

-- the number that the next message gets
abbrev pub next_number : AreaState → ℕ
next_number state = state.base + length state.slots

-- a live message that a base may have: its subfields and its text are not too long, and no bit says that it is killed
pub record IsMessageInRange (message : LiveMessage) : Type 0 where
  pub few_bytes : length (subfield_bytes message.subfields) ≤ MOST_SUBFIELD_BYTES
  pub short_text : length message.text ≤ MOST_TEXT_BYTES
  pub live : bit_and message.head.attribute DELETED ≡ 0

-- what a number names is in range
abbrev pub IsSlotInRange : SlotState → Type 0
IsSlotInRange no_message = Unit {0}
IsSlotInRange killed_message = Unit {0}
IsSlotInRange (live_message message) = IsMessageInRange message

-- a state that a base of so many slots may have
pub record IsWellFormed (limit : ℕ) (state : AreaState) : Type 0 where
  pub base : 1 ≤ state.base
  pub numbers : next_number state ≤ 4294967295
  pub few_slots : length state.slots ≤ limit
  pub few_marks : length state.marks ≤ MOST_MARKS
  pub each : All IsSlotInRange state.slots

-- the text of a loaded message, out of the file of texts
abbrev pub text_of : List ℕ → LoadedMessage → List ℕ
text_of texts message = take message.text_len (drop message.text_at texts)

-- the loaded message, with its text out of the file of texts
abbrev pub with_text : List ℕ → LoadedMessage → LiveMessage
with_text texts message =
    record { owner = message.owner; head = message.head; subfields = message.subfields; text = text_of texts message }

-- a loaded slot, with its text out of the file of texts
abbrev pub slot_state : List ℕ → LoadedSlot → SlotState
slot_state texts Empty = no_message
slot_state texts (Killed header_at) = killed_message
slot_state texts (Live message) =
    live_message (record { owner = message.owner; head = message.head; subfields = message.subfields; text = text_of texts message })

-- a loaded area, with its texts out of the file of texts
abbrev pub state_of : List ℕ → Loaded → AreaState
state_of texts loaded = record {
  created = loaded.created;
  counter = loaded.counter;
  active = loaded.active;
  password = loaded.password;
  reserved = loaded.reserved;
  base = loaded.base;
  slots = map (slot_state texts) loaded.slots;
  marks = loaded.marks;
  headers_len = loaded.headers_len;
  texts_len = loaded.texts_len;
}
