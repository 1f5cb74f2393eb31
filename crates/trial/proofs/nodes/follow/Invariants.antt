use Rattle.jb_shared.specs.Areas.{IsOf}
use Rattle.trial.proofs.nodes.follow.Given as goal

abbrev pub invariant-loop : goal.invariant-loop
invariant-loop g l = IsOf l.area l.pass
