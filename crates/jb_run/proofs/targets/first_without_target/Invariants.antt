use Rattle.jb_run.specs.Targets.{HaveTargets}
use Rattle.jb_run.proofs.targets.first_without_target.Given as goal

-- each area before has a target
abbrev pub invariant-loop-k : goal.invariant-loop-k
invariant-loop-k l = HaveTargets l.dir l.areas l.k
