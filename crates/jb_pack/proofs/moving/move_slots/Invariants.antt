use Rattle.std.proofs.Common.{◌≡◌, List, drop, map}
use Rattle.jb_state.specs.Plan.{links_of}
use Rattle.jb_state.specs.LiveSlots.{linkables_from}
use Rattle.jb_state.specs.Links.{Linkable}
use Rattle.jb_pack.proofs.MoveLemmas.{IsMoved}
use Rattle.jb_pack.proofs.moving.move_slots.Given as goal

abbrev pub invariant-loop-at : goal.invariant-loop-at
invariant-loop-at l = (live : List Linkable) → l.links ≡ map (links_of live) (linkables_from l.base l.initial.slots)
    → IsMoved live l.links l.base l.initial.slots l.slots l.place l.at (drop l.at l.initial.slots)
