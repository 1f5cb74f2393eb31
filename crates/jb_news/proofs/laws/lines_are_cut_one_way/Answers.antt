use Rattle.jb_news.proofs.Cuts.{cuts_one, cuts_some, goes_on}
use Rattle.jb_news.proofs.laws.lines_are_cut_one_way.Goals as goal

pub returns-clause-some : goal.returns-clause-some
returns-clause-some c = cuts_some

pub returns-clause-same : goal.returns-clause-same
returns-clause-same c = cuts_one

pub returns-clause-kept : goal.returns-clause-kept
returns-clause-kept c = goes_on
