use Rattle.std.proofs.Common.{drop}
use Rattle.jb_journal.proofs.PieceLemmas.{Putting}
use Rattle.jb_journal.proofs.filing.put_pieces.Given as goal

abbrev pub invariant-loop-k : goal.invariant-loop-k
invariant-loop-k g l = Putting (g.D.Disk.device l.initial.disk) (g.D.Disk.device l.disk) l.gathering l.redo.pieces (drop l.k l.redo.pieces)
