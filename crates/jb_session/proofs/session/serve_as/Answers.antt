use Rattle.jb_session.specs.Exchanges.{node_with}
use Rattle.jb_session.proofs.Standing.{served_by, served_none}
use Rattle.jb_session.proofs.session.serve_as.Goals as goal

pub returns-in_default-clause-served : goal.returns-in_default-clause-served
returns-in_default-clause-served g c =
    served_by _ _ _ _ _ _ _ _ c.begin-log.ensures c.end.ensures.wire c.end.ensures.same
    (served_none c.laws.ensures.some (g.L.Link.wire c.begin-log.new.link) (node_with (g.C.Clock.readings c.args.clock.now) c.args.passes.now c.args.pager.now))

pub returns-clause-served : goal.returns-clause-served
returns-clause-served g c = served_by _ _ _ _ _ _ _ _ c.begin-log.ensures c.end-2.ensures.wire c.end-2.ensures.same c.serve_talk-end.ensures.served
