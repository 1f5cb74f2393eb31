use Rattle.jb_change.proofs.AreaLemmas.{makes_nothing}
use Rattle.jb_change.proofs.laws.makes_nothing.Goals as goal

pub returns : goal.returns
returns c = makes_nothing
