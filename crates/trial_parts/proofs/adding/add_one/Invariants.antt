use Rattle.std.proofs.Common.{Some}
use Rattle.jb_turn.specs.Seats.{node}
use Rattle.trial_parts.proofs.adding.add_one.Given as goal

abbrev pub ghosts-note_added : goal.ghosts-note_added
ghosts-note_added a = record { entry = Some (node a.seat.now, a.amount) }
