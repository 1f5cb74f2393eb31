use Rattle.jb_page.proofs.Keeps.{begins}
use Rattle.jb_page.proofs.hand.PageQueue.new.Goals as goal

pub ruled-requires-clause-rule : goal.ruled-requires-clause-rule
ruled-requires-clause-rule c = begins
