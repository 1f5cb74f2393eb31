use Rattle.jb_disk.proofs.RunLemmas.{leaves_only}
use Rattle.jb_journal.specs.Prepare.{IsPreparing}
use Rattle.jb_journal.proofs.PrepareLemmas.{preparing_shut, shows_preparing, synced_after, told_again}
use Rattle.jb_journal.proofs.preparing.prepare.Goals as goal

pub returns-in-Ok-clause-shows : goal.returns-in-Ok-clause-shows
returns-in-Ok-clause-shows g c = λ start there synced. (c.make_head.ensures.keeps start).shows (shows_preparing start (g.D.Disk.device c.args.disk.now) there synced)

pub returns-in-Ok-clause-crash : goal.returns-in-Ok-clause-crash
returns-in-Ok-clause-crash g c = λ start there synced. leaves_only (IsPreparing start) _ _ (shows_preparing start (g.D.Disk.device c.args.disk.now) there synced) (c.make_head.ensures.keeps start)

pub returns-in-Ok-clause-shut : goal.returns-in-Ok-clause-shut
returns-in-Ok-clause-shut g c = λ start closed shows. λ files there. preparing_shut start files closed (((c.make_head.ensures.keeps start).shows shows).read files there)

pub returns-in-Err-clause-shows : goal.returns-in-Err-clause-shows
returns-in-Err-clause-shows g c = λ start there synced. (c.make_head.ensures.keeps start).shows (shows_preparing start (g.D.Disk.device c.args.disk.now) there synced)

pub returns-in-Err-clause-crash : goal.returns-in-Err-clause-crash
returns-in-Err-clause-crash g c = λ start there synced. leaves_only (IsPreparing start) _ _ (shows_preparing start (g.D.Disk.device c.args.disk.now) there synced) (c.make_head.ensures.keeps start)

pub returns-in-Err-clause-shut : goal.returns-in-Err-clause-shut
returns-in-Err-clause-shut g c = λ start closed shows. λ files there. preparing_shut start files closed (((c.make_head.ensures.keeps start).shows shows).read files there)

pub returns-in-Ok-clause-durable : goal.returns-in-Ok-clause-durable
returns-in-Ok-clause-durable g c = λ synced. synced_after (g.D.Disk.device c.args.disk.now) (g.D.Disk.device c.make_head.new.disk) c.in-Ok.ensures.made c.in-Ok.ensures.durable synced

pub returns-in-Ok-clause-again : goal.returns-in-Ok-clause-again
returns-in-Ok-clause-again g c = λ start shows. (told_again start (g.D.Disk.device c.args.disk.now) (g.D.Disk.device c.make_head.new.disk) c.in-Ok.ensures.made shows, c.in-Ok.ensures.durable start shows)
