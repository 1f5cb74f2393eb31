use Rattle.std.proofs.Common.{inl, refl}
use Rattle.jb_disk.proofs.steady.SteadyDiskDisk.write_at.Goals as goal

pub returns-clause-changed : goal.returns-clause-changed
returns-clause-changed c = record { tried = record { others = c.overwrite.ensures.others; steady = tt }; moments = inl refl }
