use Rattle.std.proofs.Common.{◌≡◌, ◌+◌, drop, vec_len}
use Rattle.jb_plain.proofs.slots.cut_front.Given as goal

abbrev pub invariant-loop-place : goal.invariant-loop-place
invariant-loop-place l = (vec_len l.slots + l.place ≡ vec_len l.initial.slots) × (l.slots.items ≡ drop l.place l.initial.slots.items)
