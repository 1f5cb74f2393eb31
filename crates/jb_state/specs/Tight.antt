-- The state of an area whose files hold nothing but its messages.
use Rattle.std.specs.Prelude.{ℕ, ◌+◌, List, length, map, replicate, sum_by}
use Rattle.jb_bytes.specs.Crc.{jam_crc_of}
use Rattle.jb_bytes.specs.Subfields.{receiver_of}
use Rattle.jb_state.specs.Message.{header_length}
use Rattle.jb_state.specs.State.{AreaState, LiveMessage, SlotState, no_message, killed_message, live_message}
use Rattle.jb_state.specs.declared.area.Area.{Area}
use Rattle.jb_state.specs.declared.area.Message.{Message}
use Rattle.jb_state.specs.declared.area.Slot.{Slot}
use Rattle.jb_state.specs.declared.area.Slot.TheVariants.{Empty, Killed, Live}

-- a message of an area, with the CRC of its receiver's name as its UserCRC
abbrev pub owned : Message → LiveMessage
owned message = record {
  owner = jam_crc_of (receiver_of message.subfields);
  head = message.head;
  subfields = message.subfields;
  text = message.text;
}

-- a slot of an area
abbrev pub owned_slot : Slot → SlotState
owned_slot Empty = no_message
owned_slot Killed = killed_message
owned_slot (Live message) = live_message (owned message)

-- the bytes of .JHR that a slot's live message takes
abbrev pub header_bytes : SlotState → ℕ
header_bytes no_message = 0
header_bytes killed_message = 0
header_bytes (live_message message) = header_length message

-- the bytes of .JDT that a slot's live message takes
abbrev pub text_bytes : SlotState → ℕ
text_bytes no_message = 0
text_bytes killed_message = 0
text_bytes (live_message message) = length message.text

-- the bytes that the headers of live messages take in .JHR, one behind another
abbrev pub headers_together : List SlotState → ℕ
headers_together slots = sum_by header_bytes slots

-- the bytes that the texts of live messages take in .JDT, one behind another
abbrev pub texts_together : List SlotState → ℕ
texts_together slots = sum_by text_bytes slots

-- the state of an area without a byte that is no message's, all other fields of its fixed header 0
abbrev pub tight_state : Area → AreaState
tight_state area = record {
  created = 0;
  counter = 0;
  active = 0;
  password = 0;
  reserved = replicate 1000 0;
  base = area.base;
  slots = map owned_slot area.slots;
  marks = area.marks;
  headers_len = 1024 + headers_together (map owned_slot area.slots);
  texts_len = texts_together (map owned_slot area.slots);
}
