use Rattle.std.proofs.Common.{◌≤◌, ◌+◌, ℕ, List, drop, map}
use Rattle.jb_state.specs.Live.{live_from}
use Rattle.jb_state.specs.State.{slot_state}
use Rattle.jb_tool.specs.Check.{HaveReadableIds}
use Rattle.jb_tool.proofs.counting.count_ids.Given as goal

abbrev pub invariant-loop-slot : goal.invariant-loop-slot
invariant-loop-slot l =
    (l.count ≤ l.slot-index)
    × ((texts : List ℕ) (base more : ℕ)
    → HaveReadableIds (live_from (base + l.slot-index) (map (slot_state texts) (drop l.slot-index l.slots))) more
    → HaveReadableIds (live_from base (map (slot_state texts) l.slots)) (l.count + more))
