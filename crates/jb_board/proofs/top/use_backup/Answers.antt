use Rattle.std.proofs.Common.{sym, subst}
use Rattle.std.specs.Prelude.{Err}
use Rattle.jb_board.proofs.Placing.{untargeted_backup, used_backup}
use Rattle.jb_board.specs.Run.{RunAnswer, UsesBackup}
use Rattle.jb_board.specs.declared.fault.Fault.{Fault}
use Rattle.jb_host.specs.Desk.{Desk, TakesBack}
use Rattle.jb_board.proofs.top.use_backup.Goals as goal

pub returns-in-Err-disk : goal.returns-in-Err-disk
returns-in-Err-disk g c =
    let dir = c.args.dir.now in
    let name = c.args.name.now in
    let onto = c.args.onto.now in
    let old = g.H.Host.desk c.args.host.now in
    let new = g.H.Host.desk c.put_back.new.self in
    subst (λ (f : Fault). UsesBackup dir name onto old new (Err f)) (sym c.of_host-in-Err-disk.ensures)
    (untargeted_backup dir name onto (g.H.Disk.Disk.device c.in-Ok.base) old _ _ new c.in-Err-disk.error c.in-Ok.ensures.ok c.in-Err-disk.ensures.err c.put_back.ensures)

pub returns : goal.returns
returns g c =
    let dir = c.args.dir.now in
    let name = c.args.name.now in
    let onto = c.args.onto.now in
    let old = g.H.Host.desk c.args.host.now in
    let new = g.H.Host.desk c.put_back-3.new.self in
    let base = g.H.Disk.Disk.device c.backup-base.result.0 in
    let back = subst (λ (d : Desk). TakesBack dir name base d (g.H.Host.desk c.put_back-2.new.self)) c.backup-base.ensures.told c.put_back-2.ensures in
    subst (λ (a : RunAnswer). UsesBackup dir name onto old new a) (sym c.answered.ensures)
    (used_backup dir name onto c.requires (g.H.Disk.Disk.device c.in-Ok.base) base (g.H.Disk.Disk.device c.in-Ok-disk.target) (g.H.Disk.Disk.device c.backup-base.result.1)
    old _ _ _ new c.in-Ok.ensures.ok c.in-Ok-disk.ensures.ok back c.put_back-3.ensures c.backup-base.result.2 c.backup-base.ensures.answer c.backup-base.ensures.crash)
