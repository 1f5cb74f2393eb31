use Rattle.std.proofs.Common.{drop}
use Rattle.jb_disk.specs.declared.version.Version.TheVariants.{Two}
use Rattle.std.specs.List.{flat_map}
use Rattle.jb_redo.specs.Record.{piece_bytes}
use Rattle.jb_journal.proofs.PutsLemmas.{Writing}
use Rattle.jb_journal.proofs.recording.put_pieces.Given as goal

abbrev pub invariant-loop-k : goal.invariant-loop-k
invariant-loop-k g l =
    Writing l.initial.gathering (g.D.Disk.device l.initial.disk) l.gathering (g.D.Disk.device l.disk) l.at l.place (flat_map (piece_bytes Two) l.redo.pieces) (flat_map (piece_bytes Two) (drop l.k l.redo.pieces))
