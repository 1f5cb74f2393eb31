use Rattle.std.proofs.Common.{drop}
use Rattle.jb_disk.specs.declared.version.Version.TheVariants.{Two}
use Rattle.std.specs.List.{flat_map}
use Rattle.jb_redo.specs.Record.{length_bytes}
use Rattle.jb_journal.proofs.PutsLemmas.{Writing}
use Rattle.jb_journal.proofs.recording.put_lengths.Given as goal

abbrev pub invariant-loop-entry : goal.invariant-loop-entry
invariant-loop-entry g l =
    Writing l.initial.gathering (g.D.Disk.device l.initial.disk) l.gathering (g.D.Disk.device l.disk) l.at l.place (flat_map (length_bytes Two) l.lengths) (flat_map (length_bytes Two) (drop l.entry-index l.lengths))
