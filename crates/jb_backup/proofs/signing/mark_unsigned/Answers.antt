use Rattle.std.proofs.Common.{[], ◌∷◌, ◌∙◌}
use Rattle.jb_disk.specs.declared.file.FileId.TheVariants.{Jhr}
use Rattle.jb_disk.proofs.RunLemmas.{keeps-then, keeps-resize, keeps-write, keeps-sync}
use Rattle.jb_backup.specs.Target.{IsTiny, IsUnsigned}
use Rattle.jb_backup.proofs.TargetLemmas.{begun_with, tiny_cut, tiny_torn, unsigned_of, resized_one, shows_written, durable_at, on_ok_both}
use Rattle.jb_backup.proofs.signing.mark_unsigned.Goals as goal

pub returns-in_err-set_len-clause-keeps : goal.returns-in_err-set_len-clause-keeps
returns-in_err-set_len-clause-keeps g c = keeps-resize IsTiny Jhr 1 _ _ _ (g.met.E.Disk.told c.args.onto.now) (g.met.E.Disk.told c.set_len.new.self) c.set_len.ensures.changed (λ before after was step. tiny_cut before after was step)

pub returns-in_err-write_at-clause-keeps : goal.returns-in_err-write_at-clause-keeps
returns-in_err-write_at-clause-keeps g c = keeps-then IsTiny _ _ _
    (keeps-resize IsTiny Jhr 1 _ _ _ (g.met.E.Disk.told c.args.onto.now) (g.met.E.Disk.told c.set_len.new.self) c.set_len.ensures.changed (λ before after was step. tiny_cut before after was step))
    (keeps-write IsTiny Jhr 0 (0 ∷ []) _ _ _ (g.met.E.Disk.told c.write_at.new.self) c.write_at.ensures.changed c.write_at.ensures.ok c.write_at.ensures.cause (λ before after was step. tiny_torn before after was step))

pub returns-clause-keeps : goal.returns-clause-keeps
returns-clause-keeps g c = keeps-then IsTiny _ _ _ (keeps-then IsTiny _ _ _
    (keeps-resize IsTiny Jhr 1 _ _ _ (g.met.E.Disk.told c.args.onto.now) (g.met.E.Disk.told c.set_len.new.self) c.set_len.ensures.changed (λ before after was step. tiny_cut before after was step))
    (keeps-write IsTiny Jhr 0 (0 ∷ []) _ _ _ (g.met.E.Disk.told c.write_at.new.self) c.write_at.ensures.changed c.write_at.ensures.ok c.write_at.ensures.cause (λ before after was step. tiny_torn before after was step)))
    (keeps-sync IsTiny Jhr _ _ _ (g.met.E.Disk.told c.write_at.new.self) (g.met.E.Disk.told c.sync.new.self) c.sync.ensures.changed)

pub returns-clause-ok : goal.returns-clause-ok
returns-clause-ok g c = on_ok_both c.sync.result _ _ _ (λ kept done shows.
    shows_written 0 IsTiny IsUnsigned _ _ (g.met.E.Disk.told c.sync.new.self) (kept ∙ c.in_ok-write_at.ensures.ok)
    (durable_at Jhr (begun_with 0) _ (g.E.Disk.device c.write_at.new.self) (g.E.Disk.device c.sync.new.self) c.in_ok-write_at.ensures.ok done)
    (λ before files is tiny same. unsigned_of before files (resized_one Jhr 1 _ _ c.in_ok-set_len.ensures.changed.done before is) tiny same)
    ((keeps-then IsTiny _ _ _ (keeps-then IsTiny _ _ _
    (keeps-resize IsTiny Jhr 1 _ _ _ (g.met.E.Disk.told c.args.onto.now) (g.met.E.Disk.told c.set_len.new.self) c.set_len.ensures.changed (λ before after was step. tiny_cut before after was step))
    (keeps-write IsTiny Jhr 0 (0 ∷ []) _ _ _ (g.met.E.Disk.told c.write_at.new.self) c.write_at.ensures.changed c.write_at.ensures.ok c.write_at.ensures.cause (λ before after was step. tiny_torn before after was step)))
    (keeps-sync IsTiny Jhr _ _ _ (g.met.E.Disk.told c.write_at.new.self) (g.met.E.Disk.told c.sync.new.self) c.sync.ensures.changed)).shows shows))
    c.sync.ensures.changed.kept c.sync.ensures.changed.done
