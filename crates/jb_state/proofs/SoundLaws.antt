-- A loaded area that fits its own lengths stands for a well-formed state, whatever its texts are.
use Rattle.std.proofs.Common.{ℕ, ◌≤◌, List, length, drop, get_or, arith, length-take}
use Rattle.std.proofs.lemmas.List.{length-map}
use Rattle.std.proofs.lemmas.List.Elements.{All-map}
use Rattle.jb_state.specs.Sound.{IsSlotWithin, IsSound}
use Rattle.jb_state.specs.State.{IsSlotInRange, IsWellFormed, slot_state, state_of, text_of}
use Rattle.jb_state.specs.declared.loaded.Loaded.{Loaded}
use Rattle.jb_state.specs.declared.loaded.LoadedMessage.{LoadedMessage}
use Rattle.jb_state.specs.declared.loaded.LoadedSlot.{LoadedSlot}
use Rattle.jb_state.specs.declared.loaded.LoadedSlot.TheVariants.{Empty, Killed, Live}

-- a text out of the file of texts is no longer than it says
text_short : (texts : List ℕ) (message : LoadedMessage) → length (text_of texts message) ≤ message.text_len
text_short texts message = omega (arith, length-take message.text_len (drop message.text_at texts))

-- a slot that lies within its files is in range
slot_in_range : (headers_len texts_len : ℕ) (texts : List ℕ) (slot : LoadedSlot) → IsSlotWithin headers_len texts_len slot → IsSlotInRange (slot_state texts slot)
slot_in_range headers_len texts_len texts Empty within = tt
slot_in_range headers_len texts_len texts (Killed header_at) within = tt
slot_in_range headers_len texts_len texts (Live message) within = record {
  few_bytes = within.few_bytes;
  short_text = omega (arith, text_short texts message, within.text.short);
  live = within.live;
}

-- a sound area has a state that a base may have
pub sound_is_well_formed : (limit : ℕ) (texts : List ℕ) (loaded : Loaded) → IsSound limit loaded → IsWellFormed limit (state_of texts loaded)
sound_is_well_formed limit texts loaded sound = record {
  base = sound.base;
  numbers = omega (arith, sound.numbers, length-map loaded.slots (slot_state texts));
  few_slots = omega (arith, sound.few_slots, length-map loaded.slots (slot_state texts));
  few_marks = sound.few_marks;
  each = All-map IsSlotInRange (slot_state texts) loaded.slots
      (λ k d low. slot_in_range loaded.headers_len loaded.texts_len texts (get_or loaded.slots k d) (sound.within k d low));
}
