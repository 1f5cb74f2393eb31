use Rattle.jb_turn.specs.Seats.{Rests}
use Rattle.trial_parts.proofs.adding.add_often.Given as goal

abbrev pub invariant-loop : goal.invariant-loop
invariant-loop g l = Rests l.turn l.seat
