use Rattle.std.proofs.Common.{ℕ, ap, ◌∙◌}
use Rattle.jb_tool.proofs.LoadRunLemmas.{goes_as, next_is}
use Rattle.jb_tool.specs.Workload.{asked, post_of_step}
use Rattle.jb_state.specs.State.{next_number}
use Rattle.jb_model.specs.declared.command.Command.{Command}
use Rattle.jb_tool.proofs.asking.ask_post.Goals as goal

pub returns : goal.returns
returns g c =
    let shown = g.D.Disk.device in
    goes_as shown 1 c.args.area.now c.ask.new.area c.args.counts.now c.ask.new.counts (asked c.args.step c.in_ok-command.command)
    (λ run. asked c.args.step (post_of_step c.args.seed c.args.step (next_number run.area)) run) c.ask.result
    (λ run at. ap (λ (command : Command). asked c.args.step command run)
    (c.in_ok-command.ensures ∙ ap (λ (n : ℕ). post_of_step c.args.seed c.args.step n) (c.next_number.ensures.next ∙ next_is shown c.args.area.now run.area at.rests))) c.ask.ensures
