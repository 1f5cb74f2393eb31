use Rattle.std.proofs.Common.{ℕ, ◌-◌, ap, ◌∙◌}
use Rattle.jb_tool.proofs.LoadRunLemmas.{goes_as, next_is}
use Rattle.jb_tool.specs.Workload.{asked, marked}
use Rattle.jb_model.specs.declared.command.Command.TheVariants.{SetMark}
use Rattle.jb_tool.proofs.asking.ask_mark.Goals as goal

pub returns : goal.returns
returns g c =
    let shown = g.D.Disk.device in
    goes_as shown 1 c.args.area.now c.ask.new.area c.args.counts.now c.ask.new.counts (asked c.args.moment (SetMark (c.next_number-number.result - 1))) (marked c.args.moment) c.ask.result
    (λ run at. ap (λ (n : ℕ). asked c.args.moment (SetMark (n - 1)) run) (c.next_number-number.ensures.next ∙ next_is shown c.args.area.now run.area at.rests)) c.ask.ensures
