use Rattle.board.proofs.Console.{still_there}
use Rattle.board.proofs.surroundings.Goals as goal

pub returns : goal.returns
returns g = still_there _ g.new.result.console g.new.ensures.console
