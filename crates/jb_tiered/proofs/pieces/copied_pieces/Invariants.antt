use Rattle.std.proofs.Common.{take}
use Rattle.jb_tiered.specs.Pieces.{AreCopies}
use Rattle.jb_tiered.proofs.pieces.copied_pieces.Given as goal

abbrev pub invariant-loop-piece : goal.invariant-loop-piece
invariant-loop-piece g l = AreCopies (take l.piece-index l.pieces.items) l.copies.items
