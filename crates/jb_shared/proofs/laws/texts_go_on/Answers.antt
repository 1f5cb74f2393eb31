use Rattle.jb_shared.proofs.TextLemmas.{texts_on}
use Rattle.jb_shared.proofs.laws.texts_go_on.Goals as goal

pub returns : goal.returns
returns c = texts_on
