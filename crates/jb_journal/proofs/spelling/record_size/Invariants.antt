use Rattle.std.proofs.Common.{◌≡◌, ◌+◌, length, drop}
use Rattle.jb_disk.specs.declared.version.Version.TheVariants.{Two}
use Rattle.std.specs.List.{flat_map}
use Rattle.jb_redo.specs.Record.{piece_bytes}
use Rattle.jb_redo.specs.Changes.{record_size}
use Rattle.jb_journal.proofs.spelling.record_size.Given as goal

abbrev pub invariant-loop-k : goal.invariant-loop-k
invariant-loop-k l = l.size + length (flat_map (piece_bytes Two) (drop l.k l.redo.pieces)) ≡ record_size l.redo
