use Rattle.std.proofs.Common.{◌≡◌, ◌+◌, length}
use Rattle.jb_wildmat.specs.Wildmats.{pattern_takes, some_end}
use Rattle.jb_wildmat.proofs.pattern.pattern_takes.Given as goal

abbrev pub invariant-loop-later : goal.invariant-loop-later
invariant-loop-later l = some_end (pattern_takes l.rest.pattern.now) l.rest.name.now ≡ pattern_takes l.pattern l.name

abbrev pub decreases-loop-later : goal.decreases-loop-later
decreases-loop-later l = length l.rest.pattern.now + length l.rest.name.now
