use Rattle.jb_tool.proofs.LoadRunLemmas.{behind_is, goes_as, goes_then}
use Rattle.jb_tool.specs.Workload.{LoadRun, asked, behind_step, marked}
use Rattle.jb_model.specs.declared.command.Command.TheVariants.{Pack}
use Rattle.jb_tool.proofs.running.run_behind.Goals as goal

pub returns : goal.returns
returns g c =
    let shown = g.D.Disk.device in
    let pack : LoadRun → LoadRun = asked c.args.step Pack in
    let mark : LoadRun → LoadRun = marked c.args.step in
    goes_as shown 2 c.args.area.now c.ask_mark.new.area c.args.counts.now c.ask_mark.new.counts (λ run. mark (pack run)) (behind_step c.args.count c.args.step) c.ask_mark.result
    (λ run at. behind_is c.args.count c.args.step run c.if-step-count.false)
    (goes_then shown 1 1 c.args.area.now c.ask_pack.new.area c.ask_mark.new.area c.args.counts.now c.ask_pack.new.counts c.ask_mark.new.counts pack mark c.ask_mark.result c.in_ok-ask_pack.ensures c.ask_mark.ensures)
