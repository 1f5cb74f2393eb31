use Rattle.jb_shared.proofs.SettledLemmas.{settled_longest}
use Rattle.jb_shared.proofs.laws.settled_is_longest.Goals as goal

pub returns : goal.returns
returns c = settled_longest
