-- What the changes of an area make of it as it is loaded.
use Rattle.std.specs.Prelude.{◌≡◌, ℕ, ◌+◌, ◌++◌, ◌∷◌, [], List, Some, length, slice_get, slice_set}
use Rattle.jb_bytes.specs.Subfields.{subfield_bytes}
use Rattle.jb_state.specs.declared.loaded.Loaded.{Loaded}
use Rattle.jb_state.specs.declared.loaded.LoadedMessage.{LoadedMessage}
use Rattle.jb_state.specs.declared.loaded.LoadedSlot.{LoadedSlot}
use Rattle.jb_state.specs.declared.loaded.LoadedSlot.TheVariants.{Empty, Killed, Live}
use Rattle.jb_state.specs.declared.mark.Mark.{Mark}
use Rattle.jb_state.specs.declared.message.Head.{Head}

-- the slot with these fields in the header of its live message; another slot is as it was
abbrev pub slot_with_head : Head → LoadedSlot → LoadedSlot
slot_with_head head Empty = Empty
slot_with_head head (Killed header_at) = Killed header_at
slot_with_head head (Live message) = Live (record message { head = head })

-- the slot with these fields in the header of its live message, whose header and text stand at these places; another slot
-- is as it was
abbrev pub slot_moved_to : Head → ℕ → ℕ → LoadedSlot → LoadedSlot
slot_moved_to head header_at text_at Empty = Empty
slot_moved_to head header_at text_at (Killed was_at) = Killed was_at
slot_moved_to head header_at text_at (Live message) = Live (record message { head = head; header_at = header_at; text_at = text_at })

-- this live message stands at this place of the index
abbrev pub IsMessageAt : Loaded → ℕ → LoadedMessage → Type 0
IsMessageAt loaded place message = slice_get loaded.slots place ≡ Some (Live message)

-- the bytes of .JHR that the message takes: its header and its subfields
abbrev pub header_size : LoadedMessage → ℕ
header_size message = 76 + length (subfield_bytes message.subfields)

-- the area with another slot at this place
abbrev pub with_slot_at : ℕ → LoadedSlot → Loaded → Loaded
with_slot_at place slot loaded = record loaded { slots = slice_set loaded.slots place slot }

-- the area with these fields in the header of the message that stands at this place
abbrev pub with_head_at : ℕ → Head → LoadedMessage → Loaded → Loaded
with_head_at place head message loaded = with_slot_at place (Live (record message { head = head })) loaded

-- the area with the message at this place killed; its header stays where it is
abbrev pub with_killed_at : ℕ → LoadedMessage → Loaded → Loaded
with_killed_at place message loaded = with_slot_at place (Killed message.header_at) loaded

-- the area with these numbers of changes and of live messages in its fixed header
abbrev pub with_counts : ℕ → ℕ → Loaded → Loaded
with_counts counter active loaded = record loaded { counter = counter; active = active }

-- the area with one message more, whose header and text stand at the ends of their files
abbrev pub with_message_behind : LoadedMessage → Loaded → Loaded
with_message_behind message loaded = record loaded {
  slots = loaded.slots ++ Live message ∷ [];
  headers_len = loaded.headers_len + header_size message;
  texts_len = loaded.texts_len + message.text_len;
}

-- the area with this message at a place, whose header and text stand at the ends of their files
abbrev pub with_message_anew : ℕ → LoadedMessage → Loaded → Loaded
with_message_anew place message loaded = record loaded {
  slots = slice_set loaded.slots place (Live message);
  headers_len = loaded.headers_len + header_size message;
  texts_len = loaded.texts_len + message.text_len;
}

-- the area with these marks
abbrev pub with_marks : List Mark → Loaded → Loaded
with_marks marks loaded = record loaded { marks = marks }
