use Rattle.std.proofs.Common.{inl, refl}
use Rattle.jb_disk.specs.Memory.{files_of}
use Rattle.jb_disk.proofs.MemoryLemmas.{resized-so}
use Rattle.jb_disk.proofs.steady.SteadyDiskDisk.set_len.Goals as goal

pub returns-in-Ok-clause-changed : goal.returns-in-Ok-clause-changed
returns-in-Ok-clause-changed c = record {
  done = resized-so c.args.file c.args.len (files_of c.args.self.now.present) _ c.in-Ok.ensures.ok c.resize.ensures.kept;
  tried = record { others = c.resize.ensures.kept; steady = tt };
  moments = inl refl;
}
