use Rattle.std.proofs.Common.{ℕ, take, [], None, arith, length-take}
use Rattle.std.proofs.lemmas.List.{nil_from_length}
use Rattle.jb_session.specs.Exchanges.{node_with}
use Rattle.jb_session.specs.declared.end.SessionEnd.TheVariants.{LinkFault}
use Rattle.jb_session.proofs.Standing.{ends_hangup, ends_unread, if_err, read, read_on, takes_no}
use Rattle.jb_session.proofs.session.turn.Goals as goal

pub returns-in_default-clause-err : goal.returns-in_default-clause-err
returns-in_default-clause-err g c = λ old from s.
    let f = c.in_default.ensures in
    ends_unread c.laws.ensures old _ _ from (node_with (g.C.Clock.readings c.args.clock.now) c.args.passes.now c.args.pager.now) c.args.talk.now s
    (c.wants.ensures.goes_on (omega (arith, c.requires.wants, c.wants.ensures.is))).0 f.sent f.err (read _ _ f.ends f.unsent f.cause.later) f.cause.failed

pub returns-then-n-eq0-clause-err : goal.returns-then-n-eq0-clause-err
returns-then-n-eq0-clause-err g c = λ old from s.
    let f = c.in-Ok.ensures in
    let w = c.wants.ensures.goes_on (omega (arith, c.requires.wants, c.wants.ensures.is)) in
    let e = f.end c.if-n-eq0.true in
    ends_hangup c.laws.ensures old _ _ from (node_with (g.C.Clock.readings c.args.clock.now) c.args.passes.now c.args.pager.now) c.args.talk.now s
    w.0 w.1 f.sent (takes_no _ _ c.in-Ok.n c.read_piece.new.buffer c.if-n-eq0.true f.found) (record { faults = f.fine; unsent = f.unsent }) (read _ _ f.ends f.unsent f.cause.later) e.1 e.0

pub returns-in_err-take-clause-err : goal.returns-in_err-take-clause-err
returns-in_err-take-clause-err g c =
    let f = c.in-Ok.ensures in
    if_err c.from_residual.result c.in_err-take.field-0.0 _ c.from_residual.ensures.1 (λ old from s.
    c.in_err-take.ensures.err old from
    (read_on c.laws.ensures old _ _ from (node_with (g.C.Clock.readings c.args.clock.now) c.args.passes.now c.args.pager.now) (take c.in-Ok.n c.read_piece.new.buffer) c.args.talk.now s
    f.found f.sent (record { faults = f.fine; unsent = f.unsent }) (read _ _ f.ends f.unsent f.cause.later) (omega (arith, f.within, c.wants.ensures.room, length-take {A = ℕ}))))

pub returns-in_err-send_owed-clause-err : goal.returns-in_err-send_owed-clause-err
returns-in_err-send_owed-clause-err g c =
    let f = c.in-Ok.ensures in
    if_err c.from_residual-in_err-send_owed.result LinkFault _ c.from_residual-in_err-send_owed.ensures.1 (λ old from s.
    c.in_err-send_owed.ensures.err c.args.board.now old from (node_with (g.C.Clock.readings c.take.new.clock) c.take.new.passes c.take.new.pager) [] None
    (c.in_ok-take.ensures.ok old from
    (read_on c.laws.ensures old _ _ from (node_with (g.C.Clock.readings c.args.clock.now) c.args.passes.now c.args.pager.now) (take c.in-Ok.n c.read_piece.new.buffer) c.args.talk.now s
    f.found f.sent (record { faults = f.fine; unsent = f.unsent }) (read _ _ f.ends f.unsent f.cause.later) (omega (arith, f.within, c.wants.ensures.room, length-take {A = ℕ})))))

pub returns-clause-ok : goal.returns-clause-ok
returns-clause-ok g c = λ old from s.
    let f = c.in-Ok.ensures in
    c.in_ok-send_owed.ensures.ok c.args.board.now old from (node_with (g.C.Clock.readings c.take.new.clock) c.take.new.passes c.take.new.pager) [] None
    (c.in_ok-take.ensures.ok old from
    (read_on c.laws.ensures old _ _ from (node_with (g.C.Clock.readings c.args.clock.now) c.args.passes.now c.args.pager.now) (take c.in-Ok.n c.read_piece.new.buffer) c.args.talk.now s
    f.found f.sent (record { faults = f.fine; unsent = f.unsent }) (read _ _ f.ends f.unsent f.cause.later) (omega (arith, f.within, c.wants.ensures.room, length-take {A = ℕ}))))

pub returns-clause-owed : goal.returns-clause-owed
returns-clause-owed g c = nil_from_length _ (omega (arith, c.in_ok-send_owed.ensures.owed))
