use Rattle.jb_tool.proofs.LoadRunLemmas.{goes_as, goes_more, post_is, tenth_is}
use Rattle.jb_tool.specs.Workload.{LoadRun, asked, in_step, post_of_step, tenth}
use Rattle.jb_state.specs.State.{next_number}
use Rattle.jb_tool.proofs.asking.ask_step.Goals as goal

pub returns-then-step-eq0 : goal.returns-then-step-eq0
returns-then-step-eq0 g c =
    goes_as g.D.Disk.device 2 c.args.area.now c.ask_tenth.new.area c.args.counts.now c.ask_tenth.new.counts (tenth c.args.seed c.args.step) (in_step c.args.seed c.args.step) c.ask_tenth.result
    (λ run at. tenth_is c.args.seed c.args.step run c.if-step-eq0.true) c.ask_tenth.ensures

pub returns-else-step-eq0 : goal.returns-else-step-eq0
returns-else-step-eq0 g c =
    let shown = g.D.Disk.device in
    let post : LoadRun → LoadRun = λ run. asked c.args.step (post_of_step c.args.seed c.args.step (next_number run.area)) run in
    goes_as shown 2 c.args.area.now c.ask_post.new.area c.args.counts.now c.ask_post.new.counts post (in_step c.args.seed c.args.step) c.ask_post.result
    (λ run at. post_is c.args.seed c.args.step run c.if-step-eq0.false)
    (goes_more shown 1 1 c.args.area.now c.ask_post.new.area c.args.counts.now c.ask_post.new.counts post c.ask_post.result c.ask_post.ensures)
