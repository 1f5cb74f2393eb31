use Rattle.std.proofs.Common.{length}
use Rattle.jb_subfield.proofs.Walked.{Walked}
use Rattle.jb_subfield.proofs.coding.cut_of.Given as goal

abbrev pub invariant-loop-rest : goal.invariant-loop-rest
invariant-loop-rest l = Walked l.bytes l.rest

abbrev pub decreases-loop-rest : goal.decreases-loop-rest
decreases-loop-rest l = length l.rest
