use Rattle.std.proofs.Common.{[], ◌∷◌, ◌++◌, Some}
use Rattle.jb_session.specs.Exchanges.{Exchange, answers_of, asks_of, node_with}
use Rattle.jb_session.proofs.Standing.{ends_short, ends_unheard, ok_map, on_err, responded}
use Rattle.jb_session.proofs.session.respond.Goals as goal

pub returns-in_err-given-clause-err : goal.returns-in_err-given-clause-err
returns-in_err-given-clause-err g c =
    on_err c.from_residual.result _ (λ old now from rest s.
    ends_short c.laws.ensures old now from (node_with (g.C.Clock.readings c.args.clock.now) c.args.passes.now c.args.pager.now) (node_with (g.C.Clock.readings c.exchange.new.clock) c.exchange.new.passes c.exchange.new.pager) rest c.args.talk.now (Some c.args.request.now) s
    c.in_err-given.ensures.err)

pub returns-clause-ok : goal.returns-clause-ok
returns-clause-ok g c =
    let x : Exchange = record { request = c.args.request.now; given = c.in_ok-given.given } in
    ok_map c.answer.result _ _
    (λ next fits old now from rest s.
    responded old now from (node_with (g.C.Clock.readings c.args.clock.now) c.args.passes.now c.args.pager.now) (node_with (g.C.Clock.readings c.exchange.new.clock) c.exchange.new.passes c.exchange.new.pager) rest c.args.talk.now c.answer.new.self x next s c.in_ok-given.ensures.ok
    (fits s.heard s.out (answers_of s.exchanges) (asks_of s.exchanges ++ c.args.request.now ∷ []) s.talked))
    c.answer.ensures.fits

pub returns-clause-err : goal.returns-clause-err
returns-clause-err g c =
    let x : Exchange = record { request = c.args.request.now; given = c.in_ok-given.given } in
    on_err c.answer.result _ (λ old now from rest s.
    ends_unheard c.laws.ensures old now from (node_with (g.C.Clock.readings c.args.clock.now) c.args.passes.now c.args.pager.now) (node_with (g.C.Clock.readings c.exchange.new.clock) c.exchange.new.passes c.exchange.new.pager) rest c.args.talk.now x s
    c.in_ok-given.ensures.ok)
