use Rattle.jb_turn.specs.Seats.{front}
use Rattle.jb_shared.proofs.showing.show.Given as goal

abbrev pub ghosts-show_front : goal.ghosts-show_front
ghosts-show_front g a = record { items = front a.seat.now }
