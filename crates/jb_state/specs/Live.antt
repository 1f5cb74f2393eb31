-- The live messages of an area, with their numbers.
use Rattle.std.specs.Prelude.{ℕ, ◌+◌, ◌-◌, ◌%◌, ◌^◌, nat_lt, Bool, true, false, List, [], ◌∷◌, map, Option, Some, None, count_by, slice_get, slice_set, if◌then◌else◌}
use Rattle.jb_state.specs.State.{AreaState, LiveMessage, SlotState, no_message, killed_message, live_message}

-- a live message and the number that names it
pub record Numbered : Type 0 where
  pub number : ℕ
  pub message : LiveMessage

-- the numbers of these messages
abbrev pub numbers_of : List Numbered → List ℕ
numbers_of messages = map (λ one. one.number) messages

-- the live messages of slots of which the first has this number, in rising order
abbrev pub live_from : ℕ → List SlotState → List Numbered
live_from number [] = []
live_from number (no_message ∷ slots) = live_from (number + 1) slots
live_from number (killed_message ∷ slots) = live_from (number + 1) slots
live_from number (live_message message ∷ slots) = record { number = number; message = message } ∷ live_from (number + 1) slots

-- the live messages of an area, in rising order of their numbers
abbrev pub live_in : AreaState → List Numbered
live_in state = live_from state.base state.slots

-- the live message of a slot, where there is one
abbrev pub live_of : Option SlotState → Option LiveMessage
live_of None = None
live_of (Some no_message) = None
live_of (Some killed_message) = None
live_of (Some (live_message message)) = Some message

-- the live message that a number names, where it names one
abbrev pub message_at : AreaState → ℕ → Option LiveMessage
message_at state number = if nat_lt number state.base then None else live_of (slice_get state.slots (number - state.base))

-- the area with another slot at this number, which lies in it
abbrev pub with_slot : AreaState → ℕ → SlotState → AreaState
with_slot state number slot = record state { slots = slice_set state.slots (number - state.base) slot }

-- a live message stands there
abbrev pub is_live : SlotState → Bool
is_live no_message = false
is_live killed_message = false
is_live (live_message message) = true

-- a killed message stood there
abbrev pub is_killed : SlotState → Bool
is_killed no_message = false
is_killed killed_message = true
is_killed (live_message message) = false

-- so many live messages
abbrev pub live_count : List SlotState → ℕ
live_count slots = count_by is_live slots

-- so many killed messages
abbrev pub killed_count : List SlotState → ℕ
killed_count slots = count_by is_killed slots

-- each live message of the slots changed, by its number; the first slot has this number
abbrev pub change_live_from : (ℕ → LiveMessage → LiveMessage) → ℕ → List SlotState → List SlotState
change_live_from change number [] = []
change_live_from change number (no_message ∷ slots) = no_message ∷ change_live_from change (number + 1) slots
change_live_from change number (killed_message ∷ slots) = killed_message ∷ change_live_from change (number + 1) slots
change_live_from change number (live_message message ∷ slots) = live_message (change number message) ∷ change_live_from change (number + 1) slots

-- the change is counted: modcounter is one more, and activemsgs the number of live messages
abbrev pub counted : AreaState → AreaState
counted state = record state { counter = (state.counter + 1) % 2 ^ 32; active = live_count state.slots }
