-- An area as it is loaded, and its texts, after a pack.
use Rattle.std.specs.Prelude.{ℕ, ◌+◌, ◌-◌, ◌%◌, ◌^◌, Bool, true, false, List, [], ◌∷◌, ◌++◌, count_by, drop, sum_by}
use Rattle.jb_state.specs.Plan.{links_of}
use Rattle.jb_state.specs.LiveSlots.{linkables_from, loaded_linkable}
use Rattle.jb_state.specs.Linked.{linked_head}
use Rattle.jb_state.specs.Links.{Linkable}
use Rattle.jb_state.specs.Loaded.{header_size}
use Rattle.jb_state.specs.PackedState.{packed_base}
use Rattle.jb_state.specs.State.{state_of, text_of}
use Rattle.jb_state.specs.declared.links.Links.{Links}
use Rattle.jb_state.specs.declared.loaded.Loaded.{Loaded}
use Rattle.jb_state.specs.declared.loaded.LoadedMessage.{LoadedMessage}
use Rattle.jb_state.specs.declared.loaded.LoadedSlot.{LoadedSlot}
use Rattle.jb_state.specs.declared.loaded.LoadedSlot.TheVariants.{Empty, Killed, Live}

-- the message with these links, its header and its text at these places
abbrev pub moved : Links → ℕ → ℕ → LoadedMessage → LoadedMessage
moved links header_at text_at message = record message { head = linked_head links message.head; header_at = header_at; text_at = text_at }

-- slots of which the first has this number, without killed messages: the header and the text of each live one stand behind
-- those before it, from these places on, and its links are those that these live messages give it
abbrev pub packed_from : List Linkable → ℕ → ℕ → ℕ → List LoadedSlot → List LoadedSlot
packed_from live number header_at text_at [] = []
packed_from live number header_at text_at (Empty ∷ slots) = Empty ∷ packed_from live (number + 1) header_at text_at slots
packed_from live number header_at text_at (Killed killed_at ∷ slots) = Empty ∷ packed_from live (number + 1) header_at text_at slots
packed_from live number header_at text_at (Live message ∷ slots) =
    Live (moved (links_of live (loaded_linkable number message)) header_at text_at message)
    ∷ packed_from live (number + 1) (header_at + header_size message) (text_at + message.text_len) slots

-- the texts of live messages, one behind another
abbrev pub texts_in : List ℕ → List LoadedSlot → List ℕ
texts_in texts [] = []
texts_in texts (Empty ∷ slots) = texts_in texts slots
texts_in texts (Killed killed_at ∷ slots) = texts_in texts slots
texts_in texts (Live message ∷ slots) = text_of texts message ++ texts_in texts slots

-- the bytes of .JHR that a slot's live message takes
abbrev pub slot_header_size : LoadedSlot → ℕ
slot_header_size Empty = 0
slot_header_size (Killed header_at) = 0
slot_header_size (Live message) = header_size message

-- the bytes of .JDT that its text takes
abbrev pub slot_text_size : LoadedSlot → ℕ
slot_text_size Empty = 0
slot_text_size (Killed header_at) = 0
slot_text_size (Live message) = message.text_len

-- the bytes of the headers of live messages together
abbrev pub headers_size : List LoadedSlot → ℕ
headers_size slots = sum_by slot_header_size slots

-- the bytes of their texts together
abbrev pub texts_size : List LoadedSlot → ℕ
texts_size slots = sum_by slot_text_size slots

-- a live message stands there
abbrev pub is_live_slot : LoadedSlot → Bool
is_live_slot Empty = false
is_live_slot (Killed header_at) = false
is_live_slot (Live message) = true

-- a killed message stands there
abbrev pub is_killed_slot : LoadedSlot → Bool
is_killed_slot Empty = false
is_killed_slot (Killed header_at) = true
is_killed_slot (Live message) = false

-- so many of the slots have a live message
abbrev pub live_slots : List LoadedSlot → ℕ
live_slots slots = count_by is_live_slot slots

-- so many of them have a killed one
abbrev pub killed_slots : List LoadedSlot → ℕ
killed_slots slots = count_by is_killed_slot slots

-- the base after a pack: the least live number, or the next number where nothing is live; no text bears on it
abbrev pub new_base : Loaded → ℕ
new_base loaded = packed_base (state_of [] loaded)

-- the slots from the new base on
abbrev pub kept_slots : Loaded → List LoadedSlot
kept_slots loaded = drop (new_base loaded - loaded.base) loaded.slots

-- the area after a pack, as it is loaded
abbrev pub packed : Loaded → Loaded
packed loaded = record loaded {
  counter = (loaded.counter + 1) % 2 ^ 32;
  active = live_slots (kept_slots loaded);
  base = new_base loaded;
  slots = packed_from (linkables_from loaded.base loaded.slots) (new_base loaded) 1024 0 (kept_slots loaded);
  headers_len = 1024 + headers_size (kept_slots loaded);
  texts_len = texts_size (kept_slots loaded);
}

-- its texts, of these texts before it
abbrev pub packed_texts : List ℕ → Loaded → List ℕ
packed_texts texts loaded = texts_in texts (kept_slots loaded)
