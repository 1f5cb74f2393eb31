use Rattle.std.proofs.Common.{◌∙◌}
use Rattle.jb_backup.proofs.BeginLemmas.{all_synced, no_more_sync, no_more_then, synced_more}
use Rattle.jb_backup.proofs.begin.sync_all.Goals as goal

pub loop-number-preserved : goal.loop-number-preserved
loop-number-preserved g c = record {
  kept = c.in_ok-sync.ensures.changed.kept ∙ c.loop-number.invariant.kept;
  synced = synced_more c.loop-number.number c.file_of.result _ _ _ (g.met.E.Disk.told c.loop-number.onto) (g.met.E.Disk.told c.sync.new.self) c.file_of.ensures c.in_ok-sync.ensures.changed c.loop-number.invariant.synced;
  crash = no_more_then _ _ _ c.loop-number.invariant.crash (no_more_sync c.file_of.result _ _ _ (g.met.E.Disk.told c.loop-number.onto) (g.met.E.Disk.told c.sync.new.self) c.sync.ensures.changed);
  quiet = c.in_ok-sync.ensures.cause.kept ∙ c.loop-number.invariant.quiet;
  alike = c.sync.ensures.cause.alike ∙ c.loop-number.invariant.alike;
}

pub returns-in_err-sync-clause-crash : goal.returns-in_err-sync-clause-crash
returns-in_err-sync-clause-crash g c = no_more_then _ _ _ c.loop-number.invariant.crash (no_more_sync c.file_of.result _ _ _ (g.met.E.Disk.told c.loop-number.onto) (g.met.E.Disk.told c.sync.new.self) c.sync.ensures.changed)

pub returns-clause-synced : goal.returns-clause-synced
returns-clause-synced g c = all_synced c.loop-number.number (g.E.Disk.device c.loop-number.onto) c.loop-number-test.false c.loop-number.invariant.synced
