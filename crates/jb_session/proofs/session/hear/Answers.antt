use Rattle.std.proofs.Common.{drop, None, refl}
use Rattle.jb_session.specs.Exchanges.{node_with}
use Rattle.jb_session.specs.declared.end.SessionEnd.TheVariants.{OutOfMemory}
use Rattle.jb_session.proofs.Standing.{ends_short, hear_on, if_err}
use Rattle.jb_session.proofs.session.hear.Goals as goal

pub returns-in_err-heard-clause-err : goal.returns-in_err-heard-clause-err
returns-in_err-heard-clause-err g c =
    if_err c.from_residual.result OutOfMemory _ c.from_residual.ensures.1 (λ old from s.
    let node = node_with (g.C.Clock.readings c.args.clock.now) c.args.passes.now c.args.pager.now in
    ends_short c.laws.ensures old (g.L.Link.wire c.args.link.now) from node node c.args.piece.now c.args.talk.now None s refl)

pub returns-in_err-respond_all-clause-err : goal.returns-in_err-respond_all-clause-err
returns-in_err-respond_all-clause-err g c =
    let n = c.in_ok-heard.heard.taken in
    if_err c.from_residual-in_err-respond_all.result c.in_err-respond_all.field-0.0 _ c.from_residual-in_err-respond_all.ensures.1 (λ old from s.
    c.in_err-respond_all.ensures.err old from (drop n c.args.piece.now)
    (hear_on old (g.L.Link.wire c.args.link.now) from (node_with (g.C.Clock.readings c.args.clock.now) c.args.passes.now c.args.pager.now) n c.args.piece.now c.first_line.result.now c.args.talk.now c.hear.new.self c.in_ok-heard.heard.request s c.first_line.ensures.front c.in_ok-heard.ensures.within c.in_ok-heard.ensures.fits))

pub returns-clause-ok : goal.returns-clause-ok
returns-clause-ok g c = λ old from s.
    let n = c.in_ok-heard.heard.taken in
    c.in_ok-respond_all.ensures.ok old from (drop n c.args.piece.now)
    (hear_on old (g.L.Link.wire c.args.link.now) from (node_with (g.C.Clock.readings c.args.clock.now) c.args.passes.now c.args.pager.now) n c.args.piece.now c.first_line.result.now c.args.talk.now c.hear.new.self c.in_ok-heard.heard.request s c.first_line.ensures.front c.in_ok-heard.ensures.within c.in_ok-heard.ensures.fits)
