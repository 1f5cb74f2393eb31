use Rattle.std.proofs.Common.{◌≡◌, ◌++◌, drop, vec_len, map, take}
use Rattle.jb_plain.specs.Walk.{without_killed}
use Rattle.jb_plain.proofs.slots.empty_killed.Given as goal

abbrev pub invariant-loop-place : goal.invariant-loop-place
invariant-loop-place l =
    (vec_len l.slots ≡ vec_len l.initial.slots)
    × (l.slots.items ≡ take l.place (map without_killed l.initial.slots.items) ++ drop l.place l.initial.slots.items)
