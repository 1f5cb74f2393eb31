use Rattle.jb_session.proofs.Telling.{asked, comes, go_on}
use Rattle.jb_session.proofs.laws.pages_are_asked.Goals as goal

pub returns-clause-asked : goal.returns-clause-asked
returns-clause-asked c = asked

pub returns-clause-go_on : goal.returns-clause-go_on
returns-clause-go_on c = go_on

pub returns-clause-none : goal.returns-clause-none
returns-clause-none c = comes
