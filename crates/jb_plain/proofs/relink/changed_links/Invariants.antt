use Rattle.std.proofs.Common.{◌≡◌, ◌+◌, ◌≤◌, drop}
use Rattle.jb_plain.specs.Walk.{linkables_from, wrong_from}
use Rattle.jb_plain.proofs.relink.changed_links.Given as goal

abbrev pub invariant-loop-slot : goal.invariant-loop-slot
invariant-loop-slot l =
    (l.number ≡ l.base + l.slot-index) × (l.changed ≤ l.slot-index)
    × (l.changed + wrong_from (linkables_from l.base l.slots) l.number (drop l.slot-index l.slots) ≡ wrong_from (linkables_from l.base l.slots) l.base l.slots)
