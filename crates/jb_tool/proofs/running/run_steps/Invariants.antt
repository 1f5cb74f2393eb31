use Rattle.jb_tool.proofs.LoadRunLemmas.{HasGone}
use Rattle.jb_tool.proofs.running.run_steps.Given as goal

abbrev pub invariant-loop-done : goal.invariant-loop-done
invariant-loop-done g l = HasGone g.D.Disk.device l.seed l.count l.done l.initial.area l.area l.initial.counts l.counts
