use Rattle.std.proofs.Common.{◌≡◌}
use Rattle.jb_run.proofs.telling.tell_examples.Given as goal

abbrev pub invariant-loop-at : goal.invariant-loop-at
invariant-loop-at g l = g.H.Host.desk l.host ≡ g.H.Host.desk l.initial.host
