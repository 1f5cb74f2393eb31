use Rattle.jb_tool.proofs.LoadRunLemmas.{goes_then}
use Rattle.jb_tool.specs.Workload.{behind_step, in_step}
use Rattle.jb_tool.proofs.running.run_step.Goals as goal

pub returns : goal.returns
returns g c =
    goes_then g.D.Disk.device 2 2 c.args.area.now c.ask_step.new.area c.run_behind.new.area c.args.counts.now c.ask_step.new.counts c.run_behind.new.counts
    (in_step c.args.seed c.args.step) (behind_step c.args.count c.args.step) c.run_behind.result c.in_ok-ask_step.ensures c.run_behind.ensures
