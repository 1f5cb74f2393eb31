use Rattle.std.proofs.Common.{ℕ, List, ◌++◌, subst}
use Rattle.std.specs.Option.{option_to_list}
use Rattle.jb_host.specs.Wire.{IsFrontOf, Sends}
use Rattle.jb_session.specs.Exchanges.{answers_of, asks_of}
use Rattle.jb_session.proofs.Standing.{ends_unsent, on_err, sent_on, wrote}
use Rattle.jb_session.proofs.sending.send_owed.Goals as goal

pub returns-in_err-send-clause-err : goal.returns-in_err-send-clause-err
returns-in_err-send-clause-err g c =
    let f = c.in_err-send.ensures in
    let P : List ℕ → Type 0 = λ w. IsFrontOf f.err.0 w in
    on_err c.from_residual.result _ (λ board old from to rest next s.
    ends_unsent c.laws.ensures old (g.L.Link.wire c.args.link.now) (g.L.Link.wire c.send.new.link) from to rest c.args.talk.now next f.err.0 s (subst P c.owed-then-owed-most.ensures f.err.1) f.err.2
    f.to_come (wrote _ _ f.ends f.unsent.later f.cause.later) f.cause.failed f.unsent.failed)

pub returns-in_ok-send-clause-ok : goal.returns-in_ok-send-clause-ok
returns-in_ok-send-clause-ok g c = λ board old from to rest next s.
    let f = c.in_ok-send.ensures in
    let P : List ℕ → Type 0 = λ w. Sends (g.L.Link.wire c.args.link.now).sent w (g.L.Link.wire c.send.new.link).sent in
    sent_on old (g.L.Link.wire c.args.link.now) (g.L.Link.wire c.send.new.link) from to rest (g.T.Speaker.posture c.args.talk.now).owed c.args.talk.now c.was_sent.new.self next s (subst P c.owed-then-owed-most.ensures f.ok) f.to_come
    (record { faults = f.fine; unsent = f.quiet }) (wrote _ _ f.ends f.unsent.later f.cause.later)
    (c.was_sent.ensures.fits board s.heard s.out (answers_of s.exchanges) (asks_of s.exchanges ++ option_to_list next) s.talked)
