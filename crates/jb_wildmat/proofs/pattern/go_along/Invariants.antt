use Rattle.std.proofs.Common.{length}
use Rattle.jb_wildmat.proofs.AlongLemmas.{IsLeft}
use Rattle.jb_wildmat.proofs.pattern.go_along.Given as goal

abbrev pub invariant-loop-sign : goal.invariant-loop-sign
invariant-loop-sign l = IsLeft l.pattern l.name l.signs l.left

abbrev pub decreases-loop-sign : goal.decreases-loop-sign
decreases-loop-sign l = length l.signs
