-- An area after a pack.
use Rattle.std.specs.Prelude.{ℕ, ◌+◌, ◌-◌, List, [], ◌∷◌, drop, map}
use Rattle.jb_state.specs.Live.{counted, Numbered, live_in}
use Rattle.jb_state.specs.Relinked.{relinked_slots}
use Rattle.jb_state.specs.State.{AreaState, SlotState, killed_message, live_message, next_number, no_message}
use Rattle.jb_state.specs.Tight.{headers_together, texts_together}

-- the number of the first of these messages, or this one where there is none
abbrev pub first_number_or : ℕ → List Numbered → ℕ
first_number_or number [] = number
first_number_or number (one ∷ rest) = one.number

-- the least live number, or the next number where nothing is live
abbrev pub packed_base : AreaState → ℕ
packed_base state = first_number_or (next_number state) (live_in state)

-- a killed message is no more
abbrev pub emptied : SlotState → SlotState
emptied no_message = no_message
emptied killed_message = no_message
emptied (live_message message) = live_message message

-- the slots from the new base on, with their links computed anew, and no killed message among them
abbrev pub packed_slots : AreaState → List SlotState
packed_slots state = map emptied (drop (packed_base state - state.base) (relinked_slots state))

-- the area after a pack: base, slots and lengths
abbrev pub packed_state : AreaState → AreaState
packed_state state = counted (record state {
  base = packed_base state;
  slots = packed_slots state;
  headers_len = 1024 + headers_together (packed_slots state);
  texts_len = texts_together (packed_slots state);
})
