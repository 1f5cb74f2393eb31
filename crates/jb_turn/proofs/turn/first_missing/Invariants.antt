use Rattle.std.proofs.Common.{ℕ, ◌<◌, map}
use Rattle.jb_turn.specs.Whole.{HasRow}
use Rattle.jb_turn.proofs.turn.first_missing.Given as goal

abbrev pub invariant-loop-number : goal.invariant-loop-number
invariant-loop-number g l = (m : ℕ) → 0 < m → m < l.number → HasRow (map g.P.Seated.knows l.seats) m
