use Rattle.std.proofs.Common.{sym, subst}
use Rattle.std.specs.Prelude.{Err}
use Rattle.jb_area_open.specs.Opening.{Refuses}
use Rattle.jb_base.specs.declared.area.AreaRules.{AreaRules}
use Rattle.jb_disk.specs.Device.{Device}
use Rattle.jb_tool.proofs.TendLemmas.{crash_opened, nothing_left, refused_left, refused_tends, tends_opened}
use Rattle.jb_tool.specs.Tending.{KeepsOrTends, Tends}
use Rattle.jb_tool.specs.declared.error.ToolError.{ToolError}
use Rattle.jb_tool.proofs.tending.tend.Goals as goal

pub returns-in_default-clause-crash : goal.returns-in_default-clause-crash
returns-in_default-clause-crash g c = nothing_left c.args.command.now (g.D.Disk.device c.args.disk)

pub returns-in_default-tool_user-clause-crash : goal.returns-in_default-tool_user-clause-crash
returns-in_default-tool_user-clause-crash g c = nothing_left c.args.command.now (g.D.Disk.device c.args.disk)

pub returns-in-Ok-open_area-clause-answer : goal.returns-in-Ok-open_area-clause-answer
returns-in-Ok-open_area-clause-answer g c =
    let shown = g.D.Disk.device in
    let before = g.D.Disk.device c.args.disk in
    let opened = c.in-Ok-open_area.ensures in
    subst (λ (d : Device). Tends c.args.command.now before d c.tend_area-answer.result) c.close.ensures
    (tends_opened shown before c.in-Ok-open_area.area opened.recovered opened.opened opened.rest c.args.command.now c.tend_area-answer.new.area c.tend_area-answer.result c.tend_area-answer.ensures)

pub returns-in-Ok-open_area-clause-crash : goal.returns-in-Ok-open_area-clause-crash
returns-in-Ok-open_area-clause-crash g c =
    let shown = g.D.Disk.device in
    let before = g.D.Disk.device c.args.disk in
    let opened = c.in-Ok-open_area.ensures in
    subst (λ (d : Device). KeepsOrTends c.args.command.now before d) c.close.ensures
    (crash_opened shown before c.in-Ok-open_area.area opened.recovered opened.opened opened.rest c.args.command.now c.tend_area-answer.new.area c.tend_area-answer.result opened.crash c.tend_area-answer.ensures)

pub returns-clause-answer : goal.returns-clause-answer
returns-clause-answer g c =
    let before = g.D.Disk.device c.args.disk in
    let after = g.D.Disk.device c.in-Err.disk in
    let refuses = subst (λ (r : AreaRules). Refuses r.slots before after c.in-Err.error) c.in-Ok.ensures c.in-Err.ensures.refused in
    subst (λ (e : ToolError). Tends c.args.command.now before after (Err e)) (sym c.from.ensures)
    (refused_tends c.args.command.now before after c.in-Err.error refuses)

pub returns-clause-crash : goal.returns-clause-crash
returns-clause-crash g c = refused_left c.args.command.now (g.D.Disk.device c.args.disk) (g.D.Disk.device c.in-Err.disk) c.in-Err.ensures.crash
