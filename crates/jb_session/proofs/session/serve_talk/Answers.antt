use Rattle.std.proofs.Common.{[], None, sym, ap, subst, ◌∙◌, arith}
use Rattle.std.proofs.lemmas.List.{nil_from_length}
use Rattle.jb_session.specs.Ends.{end_as}
use Rattle.jb_session.specs.Exchanges.{node_with}
use Rattle.jb_session.specs.Served.{ServedBy}
use Rattle.jb_session.specs.declared.end.SessionEnd.{SessionEnd}
use Rattle.jb_session.proofs.Standing.{ends_over, stands_first}
use Rattle.jb_session.proofs.session.serve_talk.Goals as goal

pub returns-in_default-clause-served : goal.returns-in_default-clause-served
returns-in_default-clause-served g c =
    c.in_default.ensures.err c.args.board.now (g.L.Link.wire c.args.link.now) (node_with (g.C.Clock.readings c.args.clock.now) c.args.passes.now c.args.pager.now) (node_with (g.C.Clock.readings c.args.clock.now) c.args.passes.now c.args.pager.now) [] None
    (stands_first (g.L.Link.wire c.args.link.now) (node_with (g.C.Clock.readings c.args.clock.now) c.args.passes.now c.args.pager.now) c.args.talk.now c.requires.fits)

pub loop-alloc-init : goal.loop-alloc-init
loop-alloc-init g c =
    let f = c.in-Ok.ensures in
    let t = c.requires.fits in (
      (c.requires.ours, c.requires.pager),
      f.hands c.args.board.now None c.requires.hands,
      nil_from_length _ (omega (arith, f.owed)),
      omega (arith, f.counted, c.laws.ensures.counts c.args.board.now c.args.talk.now [] [] [] [] t),
      f.ok c.args.board.now (g.L.Link.wire c.args.link.now) (node_with (g.C.Clock.readings c.args.clock.now) c.args.passes.now c.args.pager.now) (node_with (g.C.Clock.readings c.args.clock.now) c.args.passes.now c.args.pager.now) [] None
          (stands_first (g.L.Link.wire c.args.link.now) (node_with (g.C.Clock.readings c.args.clock.now) c.args.passes.now c.args.pager.now) c.args.talk.now t),
    )

pub returns-clause-served : goal.returns-clause-served
returns-clause-served g c =
    let i = c.loop-alloc.invariant in
    let P : SessionEnd → Type 0 = λ w. ServedBy g.T.Speaker.talks g.T.Speaker.user_of c.args.board.now (g.L.Link.wire c.args.link.now) (node_with (g.C.Clock.readings c.args.clock.now) c.args.passes.now c.args.pager.now) w (g.L.Link.wire c.loop-alloc.link) (node_with (g.C.Clock.readings c.loop-alloc.clock) c.loop-alloc.passes c.loop-alloc.pager) in
    subst P (sym (c.ended.ensures ∙ ap end_as c.end.ensures))
    (ends_over c.laws.ensures (g.L.Link.wire c.args.link.now) (g.L.Link.wire c.loop-alloc.link) (node_with (g.C.Clock.readings c.args.clock.now) c.args.passes.now c.args.pager.now) (node_with (g.C.Clock.readings c.loop-alloc.clock) c.loop-alloc.passes c.loop-alloc.pager) c.loop-alloc.talk i.4 i.2
    (c.wants.ensures.over (omega (arith, c.loop-alloc-test.false)) i.2))
