use Rattle.std.proofs.Common.{sym, subst}
use Rattle.std.specs.Prelude.{Ok, Err}
use Rattle.jb_area.specs.Calls.{BeginsCall}
use Rattle.jb_base.specs.declared.user.User.{User}
use Rattle.jb_tool.proofs.CommandLemmas.{command_done, command_dropped, command_stopped, not_begun}
use Rattle.jb_tool.specs.Changing.{DoesCommand}
use Rattle.jb_tool.specs.declared.error.ToolError.{ToolError}
use Rattle.jb_tool.proofs.tending.tend_area.Goals as goal

pub returns-in-Err : goal.returns-in-Err
returns-in-Err g c =
    let shown = g.D.Disk.device in
    let begins = subst (λ (u : User). BeginsCall shown c.args.area.now c.begin.new.self u 0 c.args.command.now (Err c.in-Err.error)) c.requires.user c.in-Err.ensures.begins in
    subst (λ (e : ToolError). DoesCommand shown c.args.command.now c.args.area.now c.begin.new.self (Err e)) (sym c.of_area.ensures)
    (not_begun shown c.args.command.now c.args.area.now c.begin.new.self c.in-Err.error begins)

pub returns-in-Ok-finish : goal.returns-in-Ok-finish
returns-in-Ok-finish g c =
    let shown = g.D.Disk.device in
    let begins = subst (λ (u : User). BeginsCall shown c.args.area.now c.begin.new.self u 0 c.args.command.now (Ok tt)) c.requires.user c.in-Ok.ensures.begins in
    command_done shown c.args.command.now c.args.area.now c.begin.new.self c.finish.new.self c.requires.rules begins c.in-Ok-reply_line.text c.coming.result.now c.in-Ok-finish.field-0
    c.requires.rests c.in-Ok-reply_line.ensures.line c.coming.ensures c.in-Ok-finish.ensures.ends.done c.finish.ensures.ends.crash c.in-Ok-finish.ensures.ends.faults

pub returns-in-Err-finish : goal.returns-in-Err-finish
returns-in-Err-finish g c =
    let shown = g.D.Disk.device in
    let begins = subst (λ (u : User). BeginsCall shown c.args.area.now c.begin.new.self u 0 c.args.command.now (Ok tt)) c.requires.user c.in-Ok.ensures.begins in
    command_stopped shown c.args.command.now c.args.area.now c.begin.new.self c.finish.new.self c.requires.rules begins _ c.in-Err-finish.ensures.ends.faults c.finish.ensures.ends.crash

pub returns-in-Err-reply_line : goal.returns-in-Err-reply_line
returns-in-Err-reply_line g c =
    let shown = g.D.Disk.device in
    let begins = subst (λ (u : User). BeginsCall shown c.args.area.now c.begin.new.self u 0 c.args.command.now (Ok tt)) c.requires.user c.in-Ok.ensures.begins in
    command_dropped shown c.args.command.now c.args.area.now c.begin.new.self c.abandon.new.self c.requires.rules begins c.coming.result.now c.in-Err-reply_line.error
    c.requires.rests c.in-Err-reply_line.ensures.none c.coming.ensures c.abandon.ensures.device
