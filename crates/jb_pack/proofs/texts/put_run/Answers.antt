use Rattle.std.proofs.Common.{inl, Err, arith}
use Rattle.jb_disk.specs.declared.file.FileId.TheVariants.{Jdt}
use Rattle.jb_image.proofs.FileBytes.{rose_within}
use Rattle.jb_pack.proofs.PackerLemmas.{fault_counted}
use Rattle.jb_pack.proofs.texts.put_run.Goals as goal

pub returns-in_err-read_at-clause-faults : goal.returns-in_err-read_at-clause-faults
returns-in_err-read_at-clause-faults g c =
    let before = g.D.Disk.device c.args.disk.now in
    let after = g.D.Disk.device c.read_at.new.self in
    let fails = c.in_err-read_at.ensures.cause in
    fault_counted before after c.from_residual-in_err-read_at.result c.from_residual-in_err-read_at.ensures.1 fails.later
    (inl (rose_within {T = Unit {0}} (Err c.in_err-read_at.field-0) before.contents Jdt _ before.faults after.faults
    (λ files contents_is.
    let within = c.requires.within files contents_is in
    grind arith)
    fails.failed))
