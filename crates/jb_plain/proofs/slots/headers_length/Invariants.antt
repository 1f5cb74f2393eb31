use Rattle.std.proofs.Common.{◌≡◌, ◌≤◌, ◌+◌, ◌-◌, ◌^◌, min, drop, map}
use Rattle.jb_state.specs.Tight.{headers_together, owned_slot}
use Rattle.jb_plain.proofs.slots.headers_length.Given as goal

abbrev pub invariant-loop-slot : goal.invariant-loop-slot
invariant-loop-slot l =
    (l.len ≤ 2 ^ 64 - 1)
    × (min (l.len + headers_together (map owned_slot (drop l.slot-index l.slots))) (2 ^ 64 - 1) ≡ min (1024 + headers_together (map owned_slot l.slots)) (2 ^ 64 - 1))
