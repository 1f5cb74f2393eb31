use Rattle.std.proofs.Common.{subst}
use Rattle.std.specs.Prelude.{Ok, Err}
use Rattle.jb_area.specs.Calls.{MeetsCall}
use Rattle.jb_base.specs.declared.user.User.{User}
use Rattle.jb_tool.proofs.LoadRunLemmas.{ask_done, ask_failed}
use Rattle.jb_tool.proofs.asking.ask.Goals as goal

pub returns-in-Ok : goal.returns-in-Ok
returns-in-Ok g c =
    let shown = g.D.Disk.device in
    let meets = subst (λ (u : User). MeetsCall shown c.args.area.now c.run.new.self u c.args.moment c.args.command.now (Ok c.in-Ok.reply)) c.requires.user c.in-Ok.ensures.meets in
    ask_done shown c.args.area.now c.run.new.self c.args.moment c.args.command.now c.args.counts.now c.count.new.self c.in-Ok.reply c.requires.ready meets
    c.count.ensures.posts c.count.ensures.reads c.count.ensures.kills c.count.ensures.few

pub returns-in-Err : goal.returns-in-Err
returns-in-Err g c =
    let shown = g.D.Disk.device in
    let meets = subst (λ (u : User). MeetsCall shown c.args.area.now c.run.new.self u c.args.moment c.args.command.now (Err c.in-Err.error)) c.requires.user c.in-Err.ensures.meets in
    ask_failed shown c.args.area.now c.run.new.self c.args.moment c.args.command.now c.args.counts.now c.in-Err.error meets
