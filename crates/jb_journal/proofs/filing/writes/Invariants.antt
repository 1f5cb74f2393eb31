use Rattle.std.proofs.Common.{ℕ, ◌≢◌, ◌<◌, length, get_or}
use Rattle.jb_disk.specs.declared.piece.Piece.{Piece}
use Rattle.jb_disk.specs.Files.{file_number}
use Rattle.jb_redo.specs.Replay.{target_of}
use Rattle.jb_journal.proofs.filing.writes.Given as goal

abbrev pub invariant-loop-k : goal.invariant-loop-k
invariant-loop-k l = (j : ℕ) (d : Piece) → j < l.k → j < length l.redo.pieces → file_number (target_of (get_or l.redo.pieces j d)) ≢ file_number l.file
