use Rattle.std.proofs.Common.{drop}
use Rattle.jb_pack.proofs.SlotLemmas.{IsPut}
use Rattle.jb_pack.proofs.slots.put_slots.Given as goal

abbrev pub invariant-loop-slot : goal.invariant-loop-slot
invariant-loop-slot l = IsPut l.loaded l.links l.initial.redo l.redo l.index l.place l.slot-index (drop l.slot-index l.slots)
