use Rattle.jb_news.proofs.NameLemmas.{group_read, id_read}
use Rattle.jb_news.proofs.laws.names_are_read_back.Goals as goal

pub returns-clause-ids : goal.returns-clause-ids
returns-clause-ids c = id_read

pub returns-clause-groups : goal.returns-clause-groups
returns-clause-groups c = group_read
