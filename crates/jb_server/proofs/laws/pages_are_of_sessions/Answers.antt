use Rattle.jb_server.proofs.Pagers.{of_sessions}
use Rattle.jb_server.proofs.laws.pages_are_of_sessions.Goals as goal

pub returns : goal.returns
returns c = of_sessions c.pages_are_asked.ensures.asked c.pages_are_asked.ensures.go_on
