use Rattle.std.proofs.Common.{length}
use Rattle.jb_disk.proofs.RunLemmas.{keeps-write}
use Rattle.jb_disk.specs.Steps.{Torn}
use Rattle.jb_backup.specs.Target.{IsUnsigned, IsSameFrom}
use Rattle.jb_backup.proofs.TargetLemmas.{unsigned_torn, other_stays}
use Rattle.jb_backup.proofs.copying.copy_chunk.Goals as goal

pub returns-in_err-write_at-clause-unsigned : goal.returns-in_err-write_at-clause-unsigned
returns-in_err-write_at-clause-unsigned g c = keeps-write IsUnsigned c.args.file c.args.at c.file_read.new.into _ _ _ (g.met.E.Disk.told c.write_at.new.self) c.write_at.ensures.changed c.write_at.ensures.ok c.write_at.ensures.cause
    (λ before after was step. unsigned_torn c.args.file c.args.at (length c.file_read.new.into) c.requires.file before after was step)

pub returns-in_err-write_at-clause-others : goal.returns-in_err-write_at-clause-others
returns-in_err-write_at-clause-others g c = λ other ne from good. keeps-write (λ files. IsSameFrom from good (files other)) c.args.file c.args.at c.file_read.new.into _ _ _ (g.met.E.Disk.told c.write_at.new.self) c.write_at.ensures.changed c.write_at.ensures.ok c.write_at.ensures.cause
    (λ before after was step. other_stays c.args.file other (Torn c.args.at (length c.file_read.new.into)) from good ne before after was step)

pub returns-clause-unsigned : goal.returns-clause-unsigned
returns-clause-unsigned g c = keeps-write IsUnsigned c.args.file c.args.at c.file_read.new.into _ _ _ (g.met.E.Disk.told c.write_at.new.self) c.write_at.ensures.changed c.write_at.ensures.ok c.write_at.ensures.cause
    (λ before after was step. unsigned_torn c.args.file c.args.at (length c.file_read.new.into) c.requires.file before after was step)

pub returns-clause-others : goal.returns-clause-others
returns-clause-others g c = λ other ne from good. keeps-write (λ files. IsSameFrom from good (files other)) c.args.file c.args.at c.file_read.new.into _ _ _ (g.met.E.Disk.told c.write_at.new.self) c.write_at.ensures.changed c.write_at.ensures.ok c.write_at.ensures.cause
    (λ before after was step. other_stays c.args.file other (Torn c.args.at (length c.file_read.new.into)) from good ne before after was step)
