use Rattle.jb_run.proofs.Completing.{refuses_none}
use Rattle.jb_run.proofs.laws.open_boards_are_served.Goals as goal

pub returns : goal.returns
returns c = refuses_none c.what_opens_is_not_refused.ensures
