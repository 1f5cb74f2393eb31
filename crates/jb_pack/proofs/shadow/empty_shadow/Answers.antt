use Rattle.jb_pack.proofs.TouchLemmas.{synced-again, touches-resize, touches-sync, touches-then}
use Rattle.jb_pack.proofs.shadow.empty_shadow.Goals as goal

pub returns-in_err-set_len-clause-kept : goal.returns-in_err-set_len-clause-kept
returns-in_err-set_len-clause-kept g c =
    touches-resize 0 (g.D.Disk.device c.args.disk.now) (g.D.Disk.device c.set_len.new.self) c.set_len.result
    (g.met.D.Disk.told c.args.disk.now) (g.met.D.Disk.told c.set_len.new.self) c.set_len.ensures.changed

pub returns-clause-kept : goal.returns-clause-kept
returns-clause-kept g c =
    touches-then (g.D.Disk.device c.args.disk.now) (g.D.Disk.device c.set_len.new.self) (g.D.Disk.device c.sync.new.self)
    (touches-resize 0 (g.D.Disk.device c.args.disk.now) (g.D.Disk.device c.set_len.new.self) c.set_len.result
    (g.met.D.Disk.told c.args.disk.now) (g.met.D.Disk.told c.set_len.new.self) c.set_len.ensures.changed)
    (touches-sync (g.D.Disk.device c.set_len.new.self) (g.D.Disk.device c.sync.new.self) c.sync.result
    (g.met.D.Disk.told c.set_len.new.self) (g.met.D.Disk.told c.sync.new.self) c.sync.ensures.changed)

pub returns-clause-durable : goal.returns-clause-durable
returns-clause-durable g c =
    synced-again (g.D.Disk.device c.args.disk.now) (g.D.Disk.device c.set_len.new.self) (g.D.Disk.device c.sync.new.self) c.sync.result
    (touches-resize 0 (g.D.Disk.device c.args.disk.now) (g.D.Disk.device c.set_len.new.self) c.set_len.result
    (g.met.D.Disk.told c.args.disk.now) (g.met.D.Disk.told c.set_len.new.self) c.set_len.ensures.changed)
    (touches-sync (g.D.Disk.device c.set_len.new.self) (g.D.Disk.device c.sync.new.self) c.sync.result
    (g.met.D.Disk.told c.set_len.new.self) (g.met.D.Disk.told c.sync.new.self) c.sync.ensures.changed)
    c.sync.ensures.changed
