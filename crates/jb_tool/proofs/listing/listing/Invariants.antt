use Rattle.std.proofs.Common.{◌≡◌, ◌+◌, ◌++◌, ℕ, List, drop, map}
use Rattle.jb_state.specs.State.{slot_state}
use Rattle.jb_tool.specs.Listing.{lines_from}
use Rattle.jb_tool.proofs.listing.listing.Given as goal

abbrev pub invariant-loop-slot : goal.invariant-loop-slot
invariant-loop-slot l =
    (l.number ≡ l.initial.number + l.slot-index)
    × ((texts : List ℕ) → l.text ++ lines_from l.number (map (slot_state texts) (drop l.slot-index l.slot-items)) ≡ lines_from l.initial.number (map (slot_state texts) l.slot-items))
