-- The listing of a base: a line for each live message, in the order of their numbers.
use Rattle.std.specs.Prelude.{ℕ, ◌+◌, List, [], ◌∷◌, ◌++◌, unwrap_or}
use Rattle.jb_bytes.specs.declared.subfield.Subfield.{Subfield}
use Rattle.jb_bytes.specs.declared.subfield.TheConstants.{SENDER_NAME, RECEIVER_NAME, SUBJECT}
use Rattle.jb_bytes.specs.Subfields.{first_of}
use Rattle.jb_text.specs.Lines.{listing_text}
use Rattle.jb_state.specs.State.{AreaState, SlotState, no_message, killed_message, live_message}

-- the data of the first subfield with this LoID, or nothing
abbrev pub field_of : ℕ → List Subfield → List ℕ
field_of id fields = unwrap_or (first_of id fields) []

-- the line of a message, as it stands in a list, and the end of the line
abbrev pub message_line : ℕ → List Subfield → List ℕ
message_line number fields =
    listing_text number (field_of SENDER_NAME fields) (field_of RECEIVER_NAME fields) (field_of SUBJECT fields) ++ 10 ∷ []

-- the line of a slot, where it is live
abbrev pub slot_line : ℕ → SlotState → List ℕ
slot_line number no_message = []
slot_line number killed_message = []
slot_line number (live_message message) = message_line number message.subfields

-- the lines of slots of which the first has this number
abbrev pub lines_from : ℕ → List SlotState → List ℕ
lines_from number [] = []
lines_from number (slot ∷ slots) = slot_line number slot ++ lines_from (number + 1) slots

-- the listing of an area
abbrev pub listing_of : AreaState → List ℕ
listing_of state = lines_from state.base state.slots
