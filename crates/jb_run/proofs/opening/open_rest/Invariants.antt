use Rattle.std.proofs.Common.{◌≤◌, ◌-◌, length, take}
use Rattle.jb_run.specs.All.{AreShared, HasAreaRoom, OpensAll}
use Rattle.jb_run.proofs.opening.open_rest.Given as goal

-- the first are open
abbrev pub invariant-loop-alloc : goal.invariant-loop-alloc
invariant-loop-alloc g l = record {
  within : length l.shared.areas.items ≤ length l.areas;
  whole : AreShared l.shared l.nodes (length l.shared.areas.items);
  room : HasAreaRoom l.shared (length l.areas);
  opens : OpensAll (take (length l.shared.areas.items) l.areas) l.nodes (g.H.Host.desk l.initial.host) (g.H.Host.desk l.host) l.shared;
}

abbrev pub decreases-loop-alloc : goal.decreases-loop-alloc
decreases-loop-alloc g l = length l.areas - length l.shared.areas.items
