use Rattle.std.proofs.Common.{◌≡◌}
use Rattle.jb_run.proofs.settings.tell_unknown.Given as goal

abbrev pub invariant-loop-name : goal.invariant-loop-name
invariant-loop-name g l = g.H.Host.desk l.host ≡ g.H.Host.desk l.initial.host
