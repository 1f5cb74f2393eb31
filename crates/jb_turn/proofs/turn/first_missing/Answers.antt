use Rattle.std.proofs.Common.{arith, map, sym, subst}
use mathlib.Core.Logic.{dite}
use native.Mathlib.Decide.{ℕ_discrete}
use Rattle.jb_turn.specs.Whole.{HasRow}
use Rattle.jb_turn.proofs.turn.first_missing.Goals as goal

pub loop-number-preserved : goal.loop-number-preserved
loop-number-preserved g c = λ m positive lt. dite (ℕ_discrete m c.loop-number.number) (λ e. subst (HasRow (map g.P.Seated.knows c.args.seats.now)) (sym e) (c.has_node.ensures.0 c.if-not-has_node.false)) (λ ne. c.loop-number.invariant m positive (omega arith))
