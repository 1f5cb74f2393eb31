use Rattle.std.proofs.Common.{◌≡◌, ℕ, ◌<◌}
use mathlib.Core.Option.{some}
use lib.ListN.{get_elem?}
use Rattle.jb_turn.proofs.turn.has_node.Given as goal

abbrev pub invariant-loop-seat : goal.invariant-loop-seat
invariant-loop-seat g l = (k : ℕ) (s : _) → k < l.seat-index → get_elem? l.seats k ≡ some s → (g.P.Seated.knows s).node ≡ l.number → ⊥
