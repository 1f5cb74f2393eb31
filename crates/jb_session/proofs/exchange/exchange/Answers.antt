use Rattle.jb_session.proofs.exchange.exchange.Goals as goal

pub returns-in-Send-clause-pager : goal.returns-in-Send-clause-pager
returns-in-Send-clause-pager g c = c.send.ensures.pager (g.T.Speaker.reach c.args.board.now) c.requires.pager

pub returns-in-Send-clause-answer : goal.returns-in-Send-clause-answer
returns-in-Send-clause-answer g c = c.send.ensures.no_line

pub returns-in-Send-clause-ok : goal.returns-in-Send-clause-ok
returns-in-Send-clause-ok g c = rw c.in-Send.is (c.send.ensures.answers (g.T.Speaker.user_of c.args.board.now) (g.C.Clock.readings c.args.clock.now) c.args.passes.now)

pub returns-in-Take-clause-pager : goal.returns-in-Take-clause-pager
returns-in-Take-clause-pager g c = c.take.ensures.pager (g.T.Speaker.reach c.args.board.now) c.requires.pager

pub returns-in-Take-clause-answer : goal.returns-in-Take-clause-answer
returns-in-Take-clause-answer g c = c.take.ensures.no_line

pub returns-in-Take-clause-ok : goal.returns-in-Take-clause-ok
returns-in-Take-clause-ok g c = rw c.in-Take.is (c.take.ensures.answers (g.T.Speaker.user_of c.args.board.now) (g.C.Clock.readings c.args.clock.now) c.args.passes.now)
