use Rattle.std.proofs.Common.{Option, subst, sym}
use Rattle.jb_host.specs.Wire.{Wire}
use Rattle.jb_speech.specs.declared.request.Request.{Request}
use Rattle.jb_session.specs.Exchanges.{node_with}
use Rattle.jb_session.specs.Served.{ServedBy, Stands}
use Rattle.jb_session.specs.declared.end.SessionEnd.TheVariants.{LinkFault, OutOfMemory}
use Rattle.jb_session.proofs.Standing.{if_err}
use Rattle.jb_session.proofs.session.respond_all.Goals as goal

pub returns-in_err-send_owed-clause-err : goal.returns-in_err-send_owed-clause-err
returns-in_err-send_owed-clause-err g c =
    if_err c.from_residual.result LinkFault _ c.from_residual.ensures.1 (λ old from rest s.
    c.in_err-send_owed.ensures.err c.args.board.now old from (node_with (g.C.Clock.readings c.loop-next.clock) c.loop-next.passes c.loop-next.pager) rest c.loop-next.next (c.loop-next.invariant.3 old from rest s))

pub returns-in_err-next-clause-err : goal.returns-in_err-next-clause-err
returns-in_err-next-clause-err g c =
    if_err c.from_residual-in_err-next.result OutOfMemory _ c.from_residual-in_err-next.ensures.1 (λ old from rest s.
    let now = g.L.Link.wire c.send_owed.new.link in
    let before = node_with (g.C.Clock.readings c.loop-next.clock) c.loop-next.passes c.loop-next.pager in
    let S : Option Request → Type 0 = λ w. Stands g.T.Speaker.user_of g.T.Speaker.has_talked c.args.board.now old from now rest c.send_owed.new.talk w before in
    let P : Wire → Type 0 = λ w. ServedBy g.T.Speaker.talks g.T.Speaker.user_of c.args.board.now old from OutOfMemory w (node_with (g.C.Clock.readings c.respond.new.clock) c.respond.new.passes c.respond.new.pager) in
    subst P (sym c.respond.ensures.wire)
    (c.in_err-next.ensures.err old now from rest
    (subst S c.in-Some.is (c.in_ok-send_owed.ensures.ok c.args.board.now old from before rest c.loop-next.next (c.loop-next.invariant.3 old from rest s)))))
