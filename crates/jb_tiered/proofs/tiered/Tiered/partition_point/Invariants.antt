use Rattle.std.proofs.Common.{◌-◌, ◌≤◌, Bool, length}
use Rattle.std.specs.Fn.{ComputesKey}
use Rattle.std.specs.List.Sorted.{IsPartitionedBy}
use Rattle.jb_tiered.proofs.SearchLemmas.{IsNarrowed}
use Rattle.jb_tiered.proofs.tiered.Tiered.partition_point.Given as goal

abbrev pub invariant-loop-low : goal.invariant-loop-low
invariant-loop-low g l = (l.low ≤ l.high) × (l.high ≤ length l.self.items) × goal.P-IsAlwaysCallable g l.pred
    × ((p : g.row.T.Denot → Bool) → ComputesKey g.P.FnMut p l.initial.pred → ComputesKey g.P.FnMut p l.pred × (IsPartitionedBy p l.self.items → IsNarrowed p l.self.items l.low l.high))

abbrev pub decreases-loop-low : goal.decreases-loop-low
decreases-loop-low g l = l.high - l.low
