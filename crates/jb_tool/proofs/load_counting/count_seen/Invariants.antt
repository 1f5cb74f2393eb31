use Rattle.std.proofs.Common.{◌≡◌, ◌≤◌, ◌+◌, ℕ, List, drop, map}
use Rattle.std.specs.Prelude.{count_by}
use Rattle.jb_state.specs.State.{slot_state}
use Rattle.jb_tool.specs.LoadSummary.{is_seen}
use Rattle.jb_tool.proofs.load_counting.count_seen.Given as goal

abbrev pub invariant-loop-slot : goal.invariant-loop-slot
invariant-loop-slot l =
    (l.count ≤ l.slot-index)
    × ((texts : List ℕ) → l.count + count_by (is_seen l.rules l.user) (map (slot_state texts) (drop l.slot-index l.slots)) ≡ count_by (is_seen l.rules l.user) (map (slot_state texts) l.slots))
