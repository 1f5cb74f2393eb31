use Rattle.jb_tool.proofs.MakingLemmas.{kept_making, made_left, made_so, nothing_kept}
use Rattle.jb_tool.proofs.making.make_base.Goals as goal

pub returns-in_err-redo-clause-crash : goal.returns-in_err-redo-clause-crash
returns-in_err-redo-clause-crash g c =
    let device = g.D.Disk.device c.args.disk.now in
    kept_making c.args.moment device device (nothing_kept device)

pub returns-in_err-recover_none-clause-crash : goal.returns-in_err-recover_none-clause-crash
returns-in_err-recover_none-clause-crash g c =
    kept_making c.args.moment (g.D.Disk.device c.args.disk.now) (g.D.Disk.device c.recover_none.new.disk) c.recover_none.ensures.crash

pub write_base-requires-clause-empty : goal.write_base-requires-clause-empty
write_base-requires-clause-empty g c = c.in_ok-recover_none.ensures.now

pub returns-in_err-write_base-clause-crash : goal.returns-in_err-write_base-clause-crash
returns-in_err-write_base-clause-crash g c =
    made_left c.args.moment (g.D.Disk.device c.args.disk.now) (g.D.Disk.device c.recover_none.new.disk) (g.D.Disk.device c.write_base.new.disk) c.in_ok-recover_none.ensures.empty
    c.recover_none.ensures.crash c.write_base.ensures.crash

pub returns-clause-answer : goal.returns-clause-answer
returns-clause-answer g c =
    made_so c.args.moment (g.D.Disk.device c.args.disk.now) (g.D.Disk.device c.recover_none.new.disk) (g.D.Disk.device c.write_base.new.disk) c.in_ok-recover_none.ensures.empty
    c.new.result c.new.ensures c.in_ok-recover_none.ensures.told c.in_ok-write_base.ensures.made

pub returns-clause-crash : goal.returns-clause-crash
returns-clause-crash g c =
    made_left c.args.moment (g.D.Disk.device c.args.disk.now) (g.D.Disk.device c.recover_none.new.disk) (g.D.Disk.device c.write_base.new.disk) c.in_ok-recover_none.ensures.empty
    c.recover_none.ensures.crash c.write_base.ensures.crash
