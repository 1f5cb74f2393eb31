use Rattle.jb_area_open.proofs.RefusalLemmas.{refuses_nothing_that_opens}
use Rattle.jb_area_open.proofs.laws.what_opens_is_not_refused.Goals as goal

pub returns : goal.returns
returns c = refuses_nothing_that_opens
