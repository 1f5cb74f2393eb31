use Rattle.std.proofs.Common.{◌≡◌, ◌+◌, drop}
use Rattle.jb_plain.specs.Walk.{front_of}
use Rattle.jb_plain.proofs.slots.slots_in_front.Given as goal

abbrev pub invariant-loop-place : goal.invariant-loop-place
invariant-loop-place l = l.place + front_of (drop l.place l.slots) ≡ front_of l.slots
