use Rattle.std.proofs.Common.{◌≡◌, ◌≤◌, ◌-◌, length, take}
use Rattle.jb_host.specs.Wire.{Sends}
use Rattle.jb_host.proofs.sending.send.Given as goal

abbrev pub invariant-loop-at : goal.invariant-loop-at
invariant-loop-at g l =
    (l.at ≤ length l.bytes)
    × Sends (g.L.Link.wire l.initial.link).sent (take l.at l.bytes) (g.L.Link.wire l.link).sent
    × ((g.L.Link.wire l.link).to_come ≡ (g.L.Link.wire l.initial.link).to_come)
    × ((g.L.Link.wire l.link).ends ≡ (g.L.Link.wire l.initial.link).ends)
    × ((g.L.Link.wire l.link).unsent ≡ (g.L.Link.wire l.initial.link).unsent)
    × ((g.L.Link.wire l.link).faults ≡ (g.L.Link.wire l.initial.link).faults)

abbrev pub decreases-loop-at : goal.decreases-loop-at
decreases-loop-at g l = length l.bytes - l.at
