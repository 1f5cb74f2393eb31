use Rattle.std.proofs.Common.{refl, ◌∙◌}
use Rattle.jb_backup.proofs.BeginLemmas.{begins_not, marked, tiny_found}
use Rattle.jb_backup.proofs.TargetLemmas.{reaches_none}
use Rattle.jb_backup.proofs.copier.Copier.begin.Goals as goal

pub returns-in_err-sync_all-clause-crash : goal.returns-in_err-sync_all-clause-crash
returns-in_err-sync_all-clause-crash g c = begins_not _ (g.E.Disk.device c.sync_all.new.onto) _ c.sync_all.ensures.crash refl

pub returns-in_err-test_empty-clause-crash : goal.returns-in_err-test_empty-clause-crash
returns-in_err-test_empty-clause-crash g c = begins_not _ (g.E.Disk.device c.sync_all.new.onto) _ c.sync_all.ensures.crash c.test_empty.ensures.kept.moments

pub returns-in_err-mark_unsigned-clause-crash : goal.returns-in_err-mark_unsigned-clause-crash
returns-in_err-mark_unsigned-clause-crash g c = marked _ (g.E.Disk.device c.sync_all.new.onto) (g.E.Disk.device c.test_empty.new.onto) _ (g.met.E.Disk.told c.test_empty.new.onto) c.sync_all.ensures.crash
    c.in_ok-sync_all.ensures.kept c.in_ok-sync_all.ensures.synced c.test_empty.ensures.kept c.in_ok-test_empty.ensures.ok c.mark_unsigned.ensures.keeps

pub returns-clause-crash : goal.returns-clause-crash
returns-clause-crash g c = marked _ (g.E.Disk.device c.sync_all.new.onto) (g.E.Disk.device c.test_empty.new.onto) _ (g.met.E.Disk.told c.test_empty.new.onto) c.sync_all.ensures.crash
    c.in_ok-sync_all.ensures.kept c.in_ok-sync_all.ensures.synced c.test_empty.ensures.kept c.in_ok-test_empty.ensures.ok c.mark_unsigned.ensures.keeps

pub returns-clause-begun : goal.returns-clause-begun
returns-clause-begun g c = record {
  unsigned = c.in_ok-mark_unsigned.ensures.ok (tiny_found (g.E.Disk.device c.sync_all.new.onto) (g.E.Disk.device c.test_empty.new.onto) (g.met.E.Disk.told c.test_empty.new.onto) c.in_ok-sync_all.ensures.synced c.test_empty.ensures.kept c.in_ok-test_empty.ensures.ok);
  texts = reaches_none _ _ _ c.again.ensures;
}

pub returns-clause-empty : goal.returns-clause-empty
returns-clause-empty g c = λ files there. c.in_ok-test_empty.ensures.ok files (c.in_ok-sync_all.ensures.kept ∙ there)
