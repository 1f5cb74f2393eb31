use Rattle.std.proofs.Common.{◌≡◌, drop}
use Rattle.std.specs.List.{list_all}
use Rattle.jb_plain.specs.Fit.{slot_fits}
use Rattle.jb_plain.proofs.fit.fit_slots.Given as goal

abbrev pub invariant-loop-slot : goal.invariant-loop-slot
invariant-loop-slot l = list_all slot_fits (drop l.slot-index l.slots) ≡ list_all slot_fits l.slots
