use Rattle.jb_tool.proofs.LoadRunLemmas.{gone_further, gone_nowhere}
use Rattle.jb_tool.proofs.running.run_steps.Goals as goal

pub loop-done-init : goal.loop-done-init
loop-done-init g c = gone_nowhere g.D.Disk.device c.args.seed c.args.count c.run_behind.new.area c.run_behind.new.counts c.in_ok-run_behind.ensures.ready

pub loop-done-preserved : goal.loop-done-preserved
loop-done-preserved g c =
    gone_further g.D.Disk.device c.args.seed c.args.count c.loop-done.done c.run_behind.new.area c.loop-done.area c.run_step.new.area c.run_behind.new.counts c.loop-done.counts c.run_step.new.counts
    c.loop-done.invariant c.in_ok-run_step.ensures
