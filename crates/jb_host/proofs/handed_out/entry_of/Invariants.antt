use Rattle.std.proofs.Common.{◌<◌, ℕ}
use Rattle.std.specs.Prelude.{◌≢◌, slice_index_or}
use Rattle.jb_host.specs.declared.handed_out.HandedOut.{HandedOut}
use Rattle.jb_host.proofs.handed_out.entry_of.Given as goal

abbrev pub invariant-loop-k : goal.invariant-loop-k
invariant-loop-k l = (j : ℕ) (d : HandedOut) → j < l.k → l.node ≢ (slice_index_or l.entries j d).node
