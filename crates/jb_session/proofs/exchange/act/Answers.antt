use Rattle.jb_session.proofs.exchange.act.Goals as goal

pub returns-in-Look-clause-ok : goal.returns-in-Look-clause-ok
returns-in-Look-clause-ok g c = rw c.in-Look.is (c.look.ensures.ok (g.C.Clock.readings c.args.clock.now))

pub returns-in-Look-clause-err : goal.returns-in-Look-clause-err
returns-in-Look-clause-err g c = rw c.in-Look.is (c.look.ensures.err (g.C.Clock.readings c.args.clock.now))

pub returns-in-Count-clause-ok : goal.returns-in-Count-clause-ok
returns-in-Count-clause-ok g c = rw c.in-Count.is (c.count.ensures.ok (g.C.Clock.readings c.args.clock.now))
