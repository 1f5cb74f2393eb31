-- An area fits exactly where files that hold just its messages are a base.
use Rattle.std.proofs.Common.{◌≡◌, ℕ, ◌+◌, ◌≤◌, true, ◌==◌, ◌&&◌, List, [], ◌∷◌, length, map, All, bit_and, refl, arith}
use Rattle.std.specs.Prelude.{nat_le}
use Rattle.std.specs.List.{list_all}
use Rattle.std.proofs.lemmas.Bool.{and_from, and_parts, eq-eqb, eqb-true, le-leb, leb-true}
use Rattle.std.proofs.lemmas.List.{length-map}
use Rattle.std.proofs.lemmas.List.Elements.{All-cons, All-head, All-nil, All-tail}
use Rattle.jb_bytes.specs.Subfields.{subfield_bytes}
use Rattle.jb_base.specs.declared.attribute.TheConstants.{DELETED}
use Rattle.jb_limits.specs.declared.limits.TheConstants.{MOST_MARKS, MOST_SUBFIELD_BYTES, MOST_TEXT_BYTES}
use Rattle.jb_state.specs.State.{IsMessageInRange, IsSlotInRange, IsWellFormed}
use Rattle.jb_state.specs.Tight.{owned, owned_slot, tight_state}
use Rattle.jb_state.specs.declared.area.Area.{Area}
use Rattle.jb_state.specs.declared.area.Message.{Message}
use Rattle.jb_state.specs.declared.area.Slot.{Slot}
use Rattle.jb_state.specs.declared.area.Slot.TheVariants.{Empty, Killed, Live}
use Rattle.jb_plain.specs.Fit.{area_fits, message_fits, slot_fits}

-- a message that fits is in range
message_in_range : (message : Message) → message_fits message ≡ true → IsMessageInRange (owned message)
message_in_range message fits =
    let outer = and_parts (nat_le (length (subfield_bytes message.subfields)) MOST_SUBFIELD_BYTES && nat_le (length message.text) MOST_TEXT_BYTES) (bit_and message.head.attribute DELETED == 0) fits in
    let inner = and_parts (nat_le (length (subfield_bytes message.subfields)) MOST_SUBFIELD_BYTES) (nat_le (length message.text) MOST_TEXT_BYTES) outer.0 in
    record {
      few_bytes = leb-true (length (subfield_bytes message.subfields)) MOST_SUBFIELD_BYTES inner.0;
      short_text = leb-true (length message.text) MOST_TEXT_BYTES inner.1;
      live = eqb-true (bit_and message.head.attribute DELETED) 0 outer.1;
    }

-- a message in range fits
message_told : (message : Message) → IsMessageInRange (owned message) → message_fits message ≡ true
message_told message range =
    and_from _ _ (and_from _ _ (le-leb (length (subfield_bytes message.subfields)) MOST_SUBFIELD_BYTES range.few_bytes) (le-leb (length message.text) MOST_TEXT_BYTES range.short_text))
    (eq-eqb (bit_and message.head.attribute DELETED) 0 range.live)

-- a slot that fits is in range
slot_in_range : (slot : Slot) → slot_fits slot ≡ true → IsSlotInRange (owned_slot slot)
slot_in_range Empty fits = tt
slot_in_range Killed fits = tt
slot_in_range (Live message) fits = message_in_range message fits

-- a slot in range fits
slot_told : (slot : Slot) → IsSlotInRange (owned_slot slot) → slot_fits slot ≡ true
slot_told Empty range = refl
slot_told Killed range = refl
slot_told (Live message) range = message_told message range

-- slots that fit are in range
slots_in_range : (slots : List Slot) → list_all slot_fits slots ≡ true → All IsSlotInRange (map owned_slot slots)
slots_in_range [] fits = All-nil IsSlotInRange
slots_in_range (slot ∷ slots) fits =
    let both = and_parts (slot_fits slot) (list_all slot_fits slots) fits in
    All-cons IsSlotInRange (owned_slot slot) (map owned_slot slots) (slot_in_range slot both.0) (slots_in_range slots both.1)

-- slots in range fit
slots_told : (slots : List Slot) → All IsSlotInRange (map owned_slot slots) → list_all slot_fits slots ≡ true
slots_told [] range = refl
slots_told (slot ∷ slots) range =
    and_from _ _ (slot_told slot (All-head IsSlotInRange (owned_slot slot) (map owned_slot slots) range))
    (slots_told slots (All-tail IsSlotInRange (owned_slot slot) (map owned_slot slots) range))

-- an area that fits is a base
pub fits_well : (limit : ℕ) (area : Area) → area_fits limit area ≡ true → IsWellFormed limit (tight_state area)
fits_well limit area fits =
    let slots = and_parts (nat_le 1 area.base && nat_le (area.base + length area.slots) 4294967295 && nat_le (length area.slots) limit && nat_le (length area.marks) MOST_MARKS) (list_all slot_fits area.slots) fits in
    let marks = and_parts (nat_le 1 area.base && nat_le (area.base + length area.slots) 4294967295 && nat_le (length area.slots) limit) (nat_le (length area.marks) MOST_MARKS) slots.0 in
    let few = and_parts (nat_le 1 area.base && nat_le (area.base + length area.slots) 4294967295) (nat_le (length area.slots) limit) marks.0 in
    let numbers = and_parts (nat_le 1 area.base) (nat_le (area.base + length area.slots) 4294967295) few.0 in
    let size = length-map area.slots owned_slot in
    let low : area.base + length area.slots ≤ 4294967295 = leb-true (area.base + length area.slots) 4294967295 numbers.1 in
    let room : length area.slots ≤ limit = leb-true (length area.slots) limit few.1 in
    record {
      base = leb-true 1 area.base numbers.0;
      numbers = omega arith;
      few_slots = omega arith;
      few_marks = leb-true (length area.marks) MOST_MARKS marks.1;
      each = slots_in_range area.slots slots.1;
    }

-- an area that is a base fits
pub well_fits : (limit : ℕ) (area : Area) → IsWellFormed limit (tight_state area) → area_fits limit area ≡ true
well_fits limit area well =
    let size = length-map area.slots owned_slot in
    let numbers = well.numbers in let few = well.few_slots in
    and_from _ _ (and_from _ _ (and_from _ _ (and_from _ _ (le-leb 1 area.base well.base) (le-leb (area.base + length area.slots) 4294967295 (omega arith)))
    (le-leb (length area.slots) limit (omega arith))) (le-leb (length area.marks) MOST_MARKS well.few_marks)) (slots_told area.slots well.each)
