use Rattle.jb_pack.proofs.HeldLemmas.{loads_packed}
use Rattle.jb_pack.proofs.laws.packed_is_held.Goals as goal

pub returns : goal.returns
returns c = loads_packed
