use Rattle.std.proofs.Common.{[], ◌∷◌}
use Rattle.jb_disk.specs.declared.file.FileId.TheVariants.{Jhr}
use Rattle.jb_disk.proofs.RunLemmas.{keeps-then, keeps-write, keeps-sync}
use Rattle.jb_backup.specs.Target.{IsAllButSigned}
use Rattle.jb_backup.proofs.TargetLemmas.{begun_with, signed_torn, durable_at, on_ok}
use Rattle.jb_backup.proofs.signing.sign.Goals as goal

pub returns-in_err-write_at-clause-keeps : goal.returns-in_err-write_at-clause-keeps
returns-in_err-write_at-clause-keeps g c = λ good. keeps-write (IsAllButSigned good) Jhr 0 (74 ∷ []) _ _ _ (g.met.E.Disk.told c.write_at.new.self) c.write_at.ensures.changed c.write_at.ensures.ok c.write_at.ensures.cause
    (λ before after was step. signed_torn good before after was step)

pub returns-clause-durable : goal.returns-clause-durable
returns-clause-durable g c = on_ok c.sync.result _ _ (λ done. durable_at Jhr (begun_with 74) _ (g.E.Disk.device c.write_at.new.self) (g.E.Disk.device c.sync.new.self) c.in_ok-write_at.ensures.ok done) c.sync.ensures.changed.done

pub returns-clause-keeps : goal.returns-clause-keeps
returns-clause-keeps g c = λ good. keeps-then (IsAllButSigned good) _ _ _
    (keeps-write (IsAllButSigned good) Jhr 0 (74 ∷ []) _ _ _ (g.met.E.Disk.told c.write_at.new.self) c.write_at.ensures.changed c.write_at.ensures.ok c.write_at.ensures.cause
    (λ before after was step. signed_torn good before after was step))
    (keeps-sync (IsAllButSigned good) Jhr _ _ _ (g.met.E.Disk.told c.write_at.new.self) (g.met.E.Disk.told c.sync.new.self) c.sync.ensures.changed)
