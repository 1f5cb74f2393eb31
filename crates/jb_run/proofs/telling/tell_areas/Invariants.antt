use Rattle.std.proofs.Common.{◌≡◌}
use Rattle.jb_run.proofs.telling.tell_areas.Given as goal

abbrev pub invariant-loop-area : goal.invariant-loop-area
invariant-loop-area g l = record {
  same : g.H.Host.desk l.host ≡ g.H.Host.desk l.initial.host;
}
