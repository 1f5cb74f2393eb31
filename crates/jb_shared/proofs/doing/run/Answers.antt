use Rattle.jb_area.proofs.CallLemmas.{meets, meets_not}
use Rattle.jb_shared.specs.Keeping.{FollowsCommand, HasChange}
use Rattle.jb_shared.proofs.DoingLemmas.{abandoned_no_change, follows_begun, leaves_abandoned, meets_abandoned, no_want}
use Rattle.jb_shared.proofs.KnowingLemmas.{on_err, on_ok}
use Rattle.jb_shared.proofs.doing.run.Goals as goal

pub returns-in_default-clause-meets : goal.returns-in_default-clause-meets
returns-in_default-clause-meets g c =
    meets_abandoned g.D.Disk.device c.args.area.now c.begin.new.self c.abandon.new.self c.args.call.user.now c.args.call.moment c.args.call.command.now c.in-Ok.field-0 c.in-Ok.ensures.begins
    c.abandon.ensures.rests c.abandon.ensures.device c.abandon.ensures.rules c.abandon.ensures.copies c.abandon.ensures.commits c.abandon.ensures.packs

pub returns-in_default-clause-doubted : goal.returns-in_default-clause-doubted
returns-in_default-clause-doubted g c = λ change.
    absurd (abandoned_no_change g.D.Disk.device c.args.area.now c.begin.new.self c.abandon.new.self c.requires.rests.texts c.args.call.user.now c.args.call.moment c.args.call.command.now c.in-Ok.field-0 c.in-Ok.ensures.begins
    c.requires.rests.rests c.abandon.ensures.rests change)

pub returns-in-Ok-change_of-clause-meets : goal.returns-in-Ok-change_of-clause-meets
returns-in-Ok-change_of-clause-meets g c =
    meets g.D.Disk.device c.args.area.now c.begin.new.self c.finish.new.area c.args.call.user.now c.args.call.moment c.args.call.command.now c.begin.result c.in-Ok.field-0 c.finish.result c.begin.ensures.begins c.in-Ok.is c.finish.ensures

pub returns-in-Ok-change_of-clause-done : goal.returns-in-Ok-change_of-clause-done
returns-in-Ok-change_of-clause-done g c =
    on_ok c.finish.result (FollowsCommand g.D.Disk.device c.args.area.now c.args.call.user.now c.args.call.moment c.args.call.command.now c.in-Ok-change_of.made.op)
    (follows_begun g.D.Disk.device c.args.area.now c.begin.new.self c.args.call.user.now c.args.call.moment c.args.call.command.now c.in-Ok.field-0 c.in-Ok-change_of.made.op c.in-Ok.ensures.begins c.in-Ok-change_of.ensures)

pub returns-in-Ok-change_of-clause-doubted : goal.returns-in-Ok-change_of-clause-doubted
returns-in-Ok-change_of-clause-doubted g c =
    on_err c.finish.result (HasChange g.D.Disk.device c.finish.new.area → FollowsCommand g.D.Disk.device c.args.area.now c.args.call.user.now c.args.call.moment c.args.call.command.now c.in-Ok-change_of.made.op)
    (λ change. follows_begun g.D.Disk.device c.args.area.now c.begin.new.self c.args.call.user.now c.args.call.moment c.args.call.command.now c.in-Ok.field-0 c.in-Ok-change_of.made.op c.in-Ok.ensures.begins c.in-Ok-change_of.ensures)

pub returns-in-Err-clause-meets : goal.returns-in-Err-clause-meets
returns-in-Err-clause-meets g c =
    meets_not g.D.Disk.device c.args.area.now c.begin.new.self c.args.call.user.now c.args.call.moment c.args.call.command.now c.begin.result c.in-Err.error c.begin.ensures.begins c.in-Err.is

pub returns-in_default-clause-wanting : goal.returns-in_default-clause-wanting
returns-in_default-clause-wanting g c = λ wanting. leaves_abandoned g.D.Disk.device c.args.area.now c.begin.new.self c.abandon.new.self c.args.call.user.now c.args.call.moment c.args.call.command.now c.begin.result c.begin.ensures.begins c.abandon.ensures.device

pub returns-in-Ok-change_of-clause-wanting : goal.returns-in-Ok-change_of-clause-wanting
returns-in-Ok-change_of-clause-wanting g c = λ wanting. absurd (no_want c.finish.result wanting c.finish.ensures.fault)

pub returns-in-Err-clause-wanting : goal.returns-in-Err-clause-wanting
returns-in-Err-clause-wanting g c = λ wanting. c.begin.ensures.begins.crash
