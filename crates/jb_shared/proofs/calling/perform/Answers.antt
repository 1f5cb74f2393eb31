use Rattle.std.proofs.Common.{Err, ap, inr}
use Rattle.jb_shared.specs.declared.error.SharedError.{SharedError}
use Rattle.jb_turn.specs.Seats.{row_of}
use Rattle.jb_shared.proofs.CallLemmas.{leads_behind}
use Rattle.jb_shared.proofs.KeepingLemmas.{leaves_then}
use Rattle.jb_shared.proofs.KnowingLemmas.{err_gives, ok_gives}
use Rattle.jb_shared.proofs.calling.perform.Goals as goal

pub returns-in-Ok-clause-performs : goal.returns-in-Ok-clause-performs
returns-in-Ok-clause-performs g c =
    let old = row_of c.args.seat.now in
    let mid = row_of c.settle-held.new.seat in
    let after = ok_gives c.settle-held.result.1 c.in-Ok.field-0 _ c.in-Ok.is c.settle-held.ensures.ended in
    leads_behind old mid (row_of c.run.new.seat) after.0 c.args.call.user.now c.args.call.moment c.args.call.command.now c.run.result.1 after.1 c.run.ensures.runs

pub returns-in-Err-clause-performs : goal.returns-in-Err-clause-performs
returns-in-Err-clause-performs g c =
    let err = err_gives c.settle-held.result.1 c.in-Err.error _ c.in-Err.is c.settle-held.ensures.err in
    record { mark = err.1.mark; grows = err.1.grows; known = λ account. inr (ap (λ (e : SharedError). Err e) err.0, err.1.known account) }

pub returns-in-Ok-clause-crash : goal.returns-in-Ok-clause-crash
returns-in-Ok-clause-crash g c =
    let after = (ok_gives c.settle-held.result.1 c.in-Ok.field-0 _ c.in-Ok.is c.settle-held.ensures.ended).1 in
    leaves_then g.D.Disk.device (row_of c.args.seat.now) (row_of c.settle-held.new.seat) (row_of c.run.new.seat) c.args.held.state.area c.settle-held.result.0.state.area c.run.result.0.state.area after.mark after.grows c.run.ensures.runs.grows
    c.settle-held.ensures.crash c.run.ensures.crash
