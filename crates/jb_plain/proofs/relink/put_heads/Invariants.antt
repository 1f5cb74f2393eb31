use Rattle.std.proofs.Common.{◌≡◌, ◌++◌, drop, vec_len, take}
use Rattle.jb_plain.specs.Walk.{with_heads}
use Rattle.jb_plain.proofs.relink.put_heads.Given as goal

abbrev pub invariant-loop-place : goal.invariant-loop-place
invariant-loop-place l =
    (vec_len l.slots ≡ vec_len l.initial.slots)
    × (l.slots.items ≡ take l.place (with_heads l.heads l.initial.slots.items) ++ drop l.place l.initial.slots.items)
