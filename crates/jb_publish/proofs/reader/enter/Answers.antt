use Rattle.jb_publish.proofs.Showing.{looks}
use Rattle.jb_publish.proofs.reader.enter.Goals as goal

pub enter_as-requires : goal.enter_as-requires
enter_as-requires g c = looks g.T.Published.stands g.J.Floor.least _ _
