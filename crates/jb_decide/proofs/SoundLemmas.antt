-- A sound area stays sound when a slot is put in the place of one that took no less.
use Rattle.std.proofs.Common.{◌≡◌, ℕ, ◌<◌, inl, inr, List, length, set, get_or, slice_get, Some, sym, subst, arith, Option, None, refl}
use Rattle.std.proofs.lemmas.Bool.{cases_eq}
use Rattle.std.proofs.lemmas.List.{get_or-set_other, get_or-set_same, length-set}
use Rattle.std.proofs.lemmas.List.Elements.{All-set}
use Rattle.std.proofs.lemmas.Option.{get_or_from_slice_get, slice_get_within}
use Rattle.jb_state.specs.Loaded.{slot_with_head, with_counts, with_slot_at}
use Rattle.jb_state.specs.Sound.{AreApart, Covers, IsSlotWithin, IsSound}
use Rattle.jb_state.specs.declared.loaded.Loaded.{Loaded}
use Rattle.jb_state.specs.declared.loaded.LoadedSlot.{LoadedSlot}
use Rattle.std.specs.List.{AllPairs}
use Rattle.jb_state.specs.Change.{headed_where}
use Rattle.jb_state.specs.declared.change.HeadAt.{HeadAt}
use Rattle.jb_state.proofs.PlaceLaws.{length_changed}

-- each byte that the one slot takes, the other takes too
abbrev pub TakesNoMore : LoadedSlot → LoadedSlot → Type 0
TakesNoMore one other = (i : ℕ) → Covers one i → Covers other i

-- each slot takes no more than the one before at its place
set_takes_no_more : (slots : List LoadedSlot) (place : ℕ) (slot : LoadedSlot) → ((d : LoadedSlot) → TakesNoMore slot (get_or slots place d)) → place < length slots
    → (k : ℕ) (d : LoadedSlot) → TakesNoMore (get_or (set slots place slot) k d) (get_or slots k d)
set_takes_no_more slots place slot less within k d = elim (cases_eq k place) [
  | inl same ↦
      let P : ℕ → Type 0 = λ j. TakesNoMore (get_or (set slots place slot) j d) (get_or slots j d) in
      let Q : LoadedSlot → Type 0 = λ s. TakesNoMore s (get_or slots place d) in
      subst P (sym same) (subst Q (sym (get_or-set_same slots place slot d within)) (less d))
  | inr other ↦
      let Q : LoadedSlot → Type 0 = λ s. TakesNoMore s (get_or slots k d) in
      subst Q (sym (get_or-set_other slots place k slot d other)) (λ i c. c)
]

-- slots stay apart
apart_after_set : (slots : List LoadedSlot) (place : ℕ) (slot : LoadedSlot) → ((d : LoadedSlot) → TakesNoMore slot (get_or slots place d)) → place < length slots
    → AllPairs AreApart slots → AllPairs AreApart (set slots place slot)
apart_after_set slots place slot less within apart i j d low high n one other =
    let less_at : (k : ℕ) (d : LoadedSlot) → TakesNoMore (get_or (set slots place slot) k d) (get_or slots k d) = set_takes_no_more slots place slot less within in
    apart i j d low (omega (arith, length-set slots place slot)) n (less_at i d n one) (less_at j d n other)

-- the area stays sound
pub sound_after_set : (limit : ℕ) (loaded : Loaded) (place : ℕ) (old slot : LoadedSlot) → slice_get loaded.slots place ≡ Some old
    → TakesNoMore slot old → IsSlotWithin loaded.headers_len loaded.texts_len slot → IsSound limit loaded → IsSound limit (with_slot_at place slot loaded)
sound_after_set limit loaded place old slot here less fits sound =
    let within : place < length loaded.slots = slice_get_within loaded.slots place old here in
    let same : length (set loaded.slots place slot) ≡ length loaded.slots = length-set loaded.slots place slot in
    let less_here : (d : LoadedSlot) → TakesNoMore slot (get_or loaded.slots place d) =
    λ d. let Q : LoadedSlot → Type 0 = λ s. TakesNoMore slot s in subst Q (sym (get_or_from_slice_get loaded.slots place old d here)) less in
    record {
      fixed = sound.fixed;
      base = sound.base;
      numbers = omega (arith, sound.numbers);
      few_slots = omega (arith, sound.few_slots);
      few_marks = sound.few_marks;
      within = All-set (IsSlotWithin loaded.headers_len loaded.texts_len) loaded.slots place slot fits sound.within;
      apart = apart_after_set loaded.slots place slot less_here within sound.apart;
    }

-- a slot of a sound area lies within its files
pub slot_within : (limit : ℕ) (loaded : Loaded) (place : ℕ) (slot : LoadedSlot) → slice_get loaded.slots place ≡ Some slot → IsSound limit loaded
    → IsSlotWithin loaded.headers_len loaded.texts_len slot
slot_within limit loaded place slot here sound =
    let P : LoadedSlot → Type 0 = IsSlotWithin loaded.headers_len loaded.texts_len in
    subst P (get_or_from_slice_get loaded.slots place slot slot here) (sound.within place slot (slice_get_within loaded.slots place slot here))

-- the counts do not matter
pub sound_counted : (limit : ℕ) (loaded : Loaded) (counter active : ℕ) → IsSound limit loaded → IsSound limit (with_counts counter active loaded)
sound_counted limit loaded counter active sound = record {
  fixed = sound.fixed;
  base = sound.base;
  numbers = sound.numbers;
  few_slots = sound.few_slots;
  few_marks = sound.few_marks;
  within = sound.within;
  apart = sound.apart;
}

-- a neighbour's header is no slot more
pub as_many : (neighbour : Option HeadAt) (loaded : Loaded) → length (headed_where neighbour loaded).slots ≡ length loaded.slots
as_many None loaded = refl
as_many (Some at) loaded = length_changed at.place (slot_with_head at.head) loaded
