use Rattle.jb_tool.proofs.LoadRunLemmas.{goes_then}
use Rattle.jb_tool.specs.Workload.{asked, run_to}
use Rattle.jb_model.specs.declared.command.Command.TheVariants.{Pack}
use Rattle.jb_tool.proofs.running.run_all.Goals as goal

pub returns : goal.returns
returns g c =
    goes_then g.D.Disk.device 200002 1 c.args.area.now c.run_steps.new.area c.ask_pack.new.area c.args.counts.now c.run_steps.new.counts c.ask_pack.new.counts
    (run_to c.args.seed c.args.count c.args.count) (asked c.args.count Pack) c.ask_pack.result c.in_ok-run_steps.ensures c.ask_pack.ensures
