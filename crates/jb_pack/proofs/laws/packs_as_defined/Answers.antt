use Rattle.jb_pack.proofs.StateLemmas.{state_packed}
use Rattle.jb_pack.proofs.laws.packs_as_defined.Goals as goal

pub returns : goal.returns
returns c = state_packed
