-- The state that the plain program holds.
use Rattle.std.specs.Prelude.{◌≡◌, ℕ, ◌-◌, ◌<◌, ◌≤◌, List, Some, length, map, replicate, slice_get, slice_set}
use Rattle.jb_state.specs.State.{AreaState, LiveMessage}
use Rattle.jb_state.specs.declared.message.Head.{Head}
use Rattle.jb_state.specs.Tight.{owned_slot}
use Rattle.jb_state.specs.declared.area.Message.{Message}
use Rattle.jb_state.specs.declared.area.Slot.{Slot}
use Rattle.jb_state.specs.declared.area.Slot.TheVariants.{Live}
use Rattle.jb_plain.specs.declared.held.PlainState.{PlainState}

-- the state of an area that began with files without a byte that is no message's
abbrev pub seen_state : PlainState → AreaState
seen_state state = record {
  created = 0;
  counter = state.counter;
  active = state.active;
  password = 0;
  reserved = replicate 1000 0;
  base = state.base;
  slots = map owned_slot state.slots.items;
  marks = state.marks.items;
  headers_len = state.headers_len;
  texts_len = state.texts_len;
}

-- the message with other fields in its header
abbrev pub with_head : Head → LiveMessage → LiveMessage
with_head head message = record message { head = head }

-- this message stands at the place of the number
pub record HasAt (state : PlainState) (number : ℕ) (message : Message) : Type 0 where
  pub low : state.base ≤ number
  pub inside : number - state.base < length state.slots.items
  pub there : slice_get state.slots.items (number - state.base) ≡ Some (Live message)

-- the slots with other fields in the header of this message, which stands at the place
abbrev pub PutsHead : List Slot → List Slot → ℕ → Head → Message → Type 0
PutsHead before after place head message = after ≡ slice_set before place (Live (record message { head = head }))
