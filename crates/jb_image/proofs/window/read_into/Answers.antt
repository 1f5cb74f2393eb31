use Rattle.std.proofs.Common.{arith}
use Rattle.jb_image.proofs.FileBytes.{rose_within}
use Rattle.jb_image.proofs.window.read_into.Goals as goal

pub returns-clause-faults : goal.returns-clause-faults
returns-clause-faults g c = record {
  quiet = c.read_at.ensures.cause.kept;
  later = c.read_at.ensures.cause.later;
  cause = rose_within c.read_at.result (g.D.Disk.device c.args.disk.now).contents c.args.file _ _ _
      (λ files contents_is.
      let within = c.requires files contents_is in
      grind arith)
      c.read_at.ensures.cause.failed;
}
