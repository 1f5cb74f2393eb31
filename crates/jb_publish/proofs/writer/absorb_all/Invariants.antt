use Rattle.std.proofs.Common.{◌≡◌, fold, drop}
use Rattle.jb_publish.proofs.writer.absorb_all.Given as goal

-- what is left of the changes makes of the value what all of them make of it as it was
abbrev pub invariant-loop-change : goal.invariant-loop-change
invariant-loop-change g l = fold g.T.Absorbs.changed l.value (drop l.change-index l.changes) ≡ fold g.T.Absorbs.changed l.initial.value l.changes
