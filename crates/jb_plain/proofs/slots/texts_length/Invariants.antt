use Rattle.std.proofs.Common.{◌≡◌, ◌≤◌, ◌+◌, ◌-◌, ◌^◌, min, drop, map}
use Rattle.jb_state.specs.Tight.{owned_slot, texts_together}
use Rattle.jb_plain.proofs.slots.texts_length.Given as goal

abbrev pub invariant-loop-slot : goal.invariant-loop-slot
invariant-loop-slot l =
    (l.len ≤ 2 ^ 64 - 1)
    × (min (l.len + texts_together (map owned_slot (drop l.slot-index l.slots))) (2 ^ 64 - 1) ≡ min (texts_together (map owned_slot l.slots)) (2 ^ 64 - 1))
