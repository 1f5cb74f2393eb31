use Rattle.std.proofs.Common.{refl, ℕ, subst, sym}
use Rattle.jb_backup.specs.Target.{HasFront, IsAllButSigned, IsSame, backed_up}
use Rattle.jb_backup.proofs.TargetLemmas.{backup_signed, backup_unsigned, reaches_unsigned, shows_written, whole_of}
use Rattle.jb_backup.proofs.copier.Copier.finish.Goals as goal

pub sign-requires : goal.sign-requires
sign-requires g c = reaches_unsigned _ (c.copy_files.ensures.unsigned.shows c.requires.begun.unsigned)

pub returns-in_err-copy_files-clause-crash : goal.returns-in_err-copy_files-clause-crash
returns-in_err-copy_files-clause-crash g c = λ files there. backup_unsigned (backed_up files) _ _ c.requires.begun.unsigned c.copy_files.ensures.unsigned

pub returns-in_err-sign-clause-crash : goal.returns-in_err-sign-clause-crash
returns-in_err-sign-clause-crash g c = λ files there. backup_signed (backed_up files) refl refl _ (g.E.Disk.device c.copy_files.new.onto) _ c.requires.begun.unsigned c.copy_files.ensures.unsigned
    (c.in_ok-copy_files.ensures.whole files there) (c.sign.ensures.keeps (backed_up files))

pub returns-clause-crash : goal.returns-clause-crash
returns-clause-crash g c = λ files there. backup_signed (backed_up files) refl refl _ (g.E.Disk.device c.copy_files.new.onto) _ c.requires.begun.unsigned c.copy_files.ensures.unsigned
    (c.in_ok-copy_files.ensures.whole files there) (c.sign.ensures.keeps (backed_up files))

pub returns-clause-whole : goal.returns-clause-whole
returns-clause-whole g c = λ files there.
    let good = backed_up files in
    shows_written 74 (IsAllButSigned good) (IsSame good) _ _ (g.met.E.Disk.told c.sign.new.onto) c.in_ok-sign.ensures.told c.in_ok-sign.ensures.durable (λ before held is p same. whole_of good refl before held p same)
    ((c.sign.ensures.keeps good).shows (c.in_ok-copy_files.ensures.whole files there))

pub copy_files-requires-clause-front : goal.copy_files-requires-clause-front
copy_files-requires-clause-front g c = λ files there. subst (λ (n : ℕ). HasFront n files (g.E.Disk.device c.args.onto.now).contents) (sym c.self.view_is) (c.requires.front files there)
