use Rattle.std.proofs.Common.{◌+◌}
use Rattle.jb_link.specs.Kept.{ArePairsBelow}
use Rattle.jb_link.proofs.kept.pairs_of.Given as goal

abbrev pub invariant-loop-place : goal.invariant-loop-place
invariant-loop-place l = ArePairsBelow l.loaded (l.loaded.base + l.place) l.pairs.items
