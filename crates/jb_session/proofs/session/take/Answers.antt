use Rattle.std.proofs.Common.{ℕ, List, None, drop, ◌+◌, subst, sym, arith, length-take, length-drop}
use Rattle.jb_host.specs.Wire.{Wire}
use Rattle.jb_session.specs.Exchanges.{node_with}
use Rattle.jb_session.specs.Served.{Stands}
use Rattle.jb_session.specs.declared.end.SessionEnd.TheVariants.{LinkFault}
use Rattle.jb_session.proofs.Standing.{drop_all, if_err, left_on, rest_on}
use Rattle.jb_session.proofs.session.take.Goals as goal

pub returns-in_err-send_owed-clause-err : goal.returns-in_err-send_owed-clause-err
returns-in_err-send_owed-clause-err g c =
    if_err c.from_residual.result LinkFault _ c.from_residual.ensures.1 (λ old from s.
    c.in_err-send_owed.ensures.err c.args.board.now old from (node_with (g.C.Clock.readings c.loop-at.clock) c.loop-at.passes c.loop-at.pager) (drop c.loop-at.at c.args.piece.now) None
    (c.loop-at.invariant.4 old from s))

pub returns-in_err-at-clause-err : goal.returns-in_err-at-clause-err
returns-in_err-at-clause-err g c =
    if_err c.from_residual-in_err-at.result c.in_err-at.field-0.0 _ c.from_residual-in_err-at.ensures.1 (λ old from s.
    let before = node_with (g.C.Clock.readings c.loop-at.clock) c.loop-at.passes c.loop-at.pager in
    c.in_err-at.ensures.err old from
    (rest_on old (g.L.Link.wire c.send_owed.new.link) from before c.loop-at.at c.args.piece.now c.send_owed.new.talk
    (c.in_ok-send_owed.ensures.ok c.args.board.now old from before (drop c.loop-at.at c.args.piece.now) None (c.loop-at.invariant.4 old from s))))

pub loop-at-preserved : goal.loop-at-preserved
loop-at-preserved g c =
    let n = c.in_ok-at.field-0 in
    let f = c.in_ok-at.ensures in (
      omega (arith, f.within, length-take {A = ℕ}, length-drop {A = ℕ}, c.loop-at.invariant.0),
      (f.ours, f.pager),
      f.hands,
      omega (arith, f.counted, c.in_ok-send_owed.ensures.counted, c.loop-at.invariant.3),
      λ old from s.
          let before = node_with (g.C.Clock.readings c.loop-at.clock) c.loop-at.passes c.loop-at.pager in
          let after = node_with (g.C.Clock.readings c.hear.new.clock) c.hear.new.passes c.hear.new.pager in
          let P : Wire → Type 0 = λ w. Stands g.T.Speaker.user_of g.T.Speaker.has_talked c.args.board.now old from w (drop (c.loop-at.at + n) c.args.piece.now) c.hear.new.talk None after in
          subst P (sym c.tell.ensures) (left_on old (g.L.Link.wire c.hear.new.link) from after c.loop-at.at n c.args.piece.now c.hear.new.talk
          (f.ok old from
          (rest_on old (g.L.Link.wire c.send_owed.new.link) from before c.loop-at.at c.args.piece.now c.send_owed.new.talk
          (c.in_ok-send_owed.ensures.ok c.args.board.now old from before (drop c.loop-at.at c.args.piece.now) None (c.loop-at.invariant.4 old from s))))),
    )

pub returns-clause-ok : goal.returns-clause-ok
returns-clause-ok g c = λ old from s.
    let P : List ℕ → Type 0 = λ w. Stands g.T.Speaker.user_of g.T.Speaker.has_talked c.args.board.now old from (g.L.Link.wire c.loop-at.link) w c.loop-at.talk None (node_with (g.C.Clock.readings c.loop-at.clock) c.loop-at.passes c.loop-at.pager) in
    subst P (drop_all c.loop-at.at c.args.piece.now (omega (arith, c.loop-at-test.false))) (c.loop-at.invariant.4 old from s)
