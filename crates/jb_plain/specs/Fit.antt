-- Tests of an area that may be run.
use Rattle.std.specs.Prelude.{ℕ, ◌+◌, nat_le, Bool, true, ◌&&◌, ◌==◌, length, bit_and}
use Rattle.std.specs.List.{list_all}
use Rattle.jb_bytes.specs.Subfields.{subfield_bytes}
use Rattle.jb_base.specs.declared.attribute.TheConstants.{DELETED}
use Rattle.jb_limits.specs.declared.limits.TheConstants.{MOST_MARKS, MOST_SUBFIELD_BYTES, MOST_TEXT_BYTES}
use Rattle.jb_state.specs.declared.area.Area.{Area}
use Rattle.jb_state.specs.declared.area.Message.{Message}
use Rattle.jb_state.specs.declared.area.Slot.{Slot}
use Rattle.jb_state.specs.declared.area.Slot.TheVariants.{Empty, Killed, Live}

-- the message keeps the limits of a base, and no bit says that it is killed
abbrev pub message_fits : Message → Bool
message_fits message =
    nat_le (length (subfield_bytes message.subfields)) MOST_SUBFIELD_BYTES && nat_le (length message.text) MOST_TEXT_BYTES
    && (bit_and message.head.attribute DELETED == 0)

-- the slot's message does, where there is one
abbrev pub slot_fits : Slot → Bool
slot_fits Empty = true
slot_fits Killed = true
slot_fits (Live message) = message_fits message

-- numbers, slots and marks keep the limits of a base of at most so many slots
abbrev pub area_fits : ℕ → Area → Bool
area_fits limit area =
    nat_le 1 area.base && nat_le (area.base + length area.slots) 4294967295 && nat_le (length area.slots) limit
    && nat_le (length area.marks) MOST_MARKS && list_all slot_fits area.slots
