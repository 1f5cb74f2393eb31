use Rattle.std.proofs.Common.{ℕ, ◌+◌, ◌%◌, ap}
use Rattle.jb_tool.proofs.LoadRunLemmas.{goes_as, goes_then}
use Rattle.jb_tool.specs.Workload.{LoadRun, asked, tenth}
use Rattle.jb_model.specs.declared.command.Command.TheVariants.{Kill, Read}
use Rattle.jb_tool.proofs.asking.ask_tenth.Goals as goal

pub returns : goal.returns
returns g c =
    let shown = g.D.Disk.device in
    let number = c.first_of_ten-number.result in
    let read : LoadRun → LoadRun = asked c.args.step (Read number) in
    let kill : LoadRun → LoadRun = asked c.args.step (Kill (number + c.args.seed % 9)) in
    goes_as shown 2 c.args.area.now c.ask-2.new.area c.args.counts.now c.ask-2.new.counts (λ run. kill (read run)) (tenth c.args.seed c.args.step) c.ask-2.result
    (λ run at. ap (λ (n : ℕ). asked c.args.step (Kill (n + c.args.seed % 9)) (asked c.args.step (Read n) run)) c.first_of_ten-number.ensures.number)
    (goes_then shown 1 1 c.args.area.now c.ask.new.area c.ask-2.new.area c.args.counts.now c.ask.new.counts c.ask-2.new.counts read kill c.ask-2.result c.in_ok-ask.ensures c.ask-2.ensures)
