use Rattle.std.proofs.Common.{◌≡◌, ◌+◌, ◌++◌, drop}
use Rattle.jb_plain.specs.Walk.{heads_from, linkables_from}
use Rattle.jb_plain.proofs.relink.linked_heads.Given as goal

abbrev pub invariant-loop-slot : goal.invariant-loop-slot
invariant-loop-slot l =
    (l.number ≡ l.base + l.slot-index)
    × (l.heads.items ++ heads_from (linkables_from l.base l.slots) l.number (drop l.slot-index l.slots) ≡ heads_from (linkables_from l.base l.slots) l.base l.slots)
