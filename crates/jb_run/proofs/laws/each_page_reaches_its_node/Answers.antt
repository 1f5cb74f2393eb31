use Rattle.jb_run.proofs.Reaching.{many_reach, one_reaches}
use Rattle.jb_run.proofs.laws.each_page_reaches_its_node.Goals as goal

pub returns-clause-many : goal.returns-clause-many
returns-clause-many c = many_reach c.pages_are_of_sessions.ensures

pub returns-clause-one : goal.returns-clause-one
returns-clause-one c = one_reaches c.pages_are_asked.ensures.asked
