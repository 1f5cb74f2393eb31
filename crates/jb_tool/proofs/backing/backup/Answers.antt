use Rattle.std.proofs.Common.{sym, subst}
use Rattle.std.specs.Prelude.{Err}
use Rattle.jb_area_open.proofs.OpeningLemmas.{reading_keeps}
use Rattle.jb_area_open.specs.Opening.{KeepsOpening, Refuses}
use Rattle.jb_base.specs.declared.area.AreaRules.{AreaRules}
use Rattle.jb_disk.specs.Device.{Device}
use Rattle.jb_tool.proofs.BackedLemmas.{answers_opened, answers_unopened, nothing_opened}
use Rattle.jb_tool.specs.Backing.{AnswersBackup}
use Rattle.jb_tool.specs.declared.error.ToolError.{ToolError}
use Rattle.jb_tool.proofs.backing.backup.Goals as goal

pub returns-in_default-clause-crash : goal.returns-in_default-clause-crash
returns-in_default-clause-crash g c = nothing_opened (g.D.Disk.device c.args.disk)

pub returns-in-Ok-open_area-clause-answer : goal.returns-in-Ok-open_area-clause-answer
returns-in-Ok-open_area-clause-answer g c =
    let before = g.D.Disk.device c.args.disk in
    let target = g.E.Disk.device c.args.onto in
    let target_now = g.E.Disk.device c.back_area-answer.new.onto in
    let opened = c.in-Ok-open_area.ensures in
    subst (λ (d : Device). AnswersBackup before d target target_now c.back_area-answer.result) c.close.ensures
    (answers_opened g.D.Disk.device before c.in-Ok-open_area.area opened.recovered opened.opened opened.rest opened.faults.quiet c.back_area-answer.new.area target target_now
    c.back_area-answer.result c.back_area-answer.ensures.copies)

pub returns-in-Ok-open_area-clause-crash : goal.returns-in-Ok-open_area-clause-crash
returns-in-Ok-open_area-clause-crash g c =
    let before = g.D.Disk.device c.args.disk in
    subst (λ (d : Device). KeepsOpening before d) c.close.ensures
    (reading_keeps before (g.D.Disk.device c.in-Ok-open_area.area.disk) _ c.back_area-answer.ensures.copies.reads c.in-Ok-open_area.ensures.crash)

pub returns-in-Err-clause-answer : goal.returns-in-Err-clause-answer
returns-in-Err-clause-answer g c =
    let before = g.D.Disk.device c.args.disk in
    let after = g.D.Disk.device c.in-Err.disk in
    let target = g.E.Disk.device c.args.onto in
    let refuses = subst (λ (r : AreaRules). Refuses r.slots before after c.in-Err.error) c.in-Ok.ensures c.in-Err.ensures.refused in
    let faults = c.in-Err.ensures.faults in
    subst (λ (e : ToolError). AnswersBackup before after target target (Err e)) (sym c.from.ensures) (answers_unopened before after target c.in-Err.error refuses faults.later faults.cause)
