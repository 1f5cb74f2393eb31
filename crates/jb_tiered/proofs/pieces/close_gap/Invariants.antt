use Rattle.std.proofs.Common.{◌-◌, ◌/◌, ◌+◌}
use Rattle.jb_tiered.proofs.PieceLemmas.{Wanders}
use Rattle.jb_tiered.proofs.pieces.close_gap.Given as goal

abbrev pub invariant-loop-gap : goal.invariant-loop-gap
invariant-loop-gap g l = Wanders (l.len + 1) l.gap l.initial.pieces.items l.pieces.items

abbrev pub decreases-loop-gap : goal.decreases-loop-gap
decreases-loop-gap g l = l.len / 512 - l.gap
