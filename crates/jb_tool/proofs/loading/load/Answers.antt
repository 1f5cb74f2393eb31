use Rattle.std.proofs.Common.{subst}
use Rattle.jb_decide.specs.Errors.{is_area_fault}
use Rattle.jb_disk.specs.Device.{CountsFaults, Device}
use Rattle.jb_tool.proofs.LoadEndLemmas.{filled_answer}
use Rattle.jb_tool.proofs.Recovering.{counts_then}
use Rattle.jb_tool.proofs.loading.load.Goals as goal

pub returns-in-Ok-clause-loaded : goal.returns-in-Ok-clause-loaded
returns-in-Ok-clause-loaded g c =
    let shown = g.D.Disk.device in
    filled_answer shown c.args.seed c.args.count c.fill-answer.result (shown c.args.disk) c.in-Ok.area c.fill-answer.new.area (shown c.close.result) c.in-Ok.ensures.alike c.in-Ok.ensures.empty c.close.ensures c.fill-answer.ensures.filled

pub returns-in-Ok-clause-faults : goal.returns-in-Ok-clause-faults
returns-in-Ok-clause-faults g c =
    let before = g.D.Disk.device c.args.disk in
    subst (λ (after : Device). CountsFaults is_area_fault before after c.fill-answer.result) c.close.ensures
    (counts_then _ _ _ _ c.fill-answer.result c.in-Ok.ensures.faults.quiet c.fill-answer.ensures.faults)
