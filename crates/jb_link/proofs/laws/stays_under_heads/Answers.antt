use Rattle.jb_link.proofs.LawLemmas.{stays_under_heads}
use Rattle.jb_link.proofs.laws.stays_under_heads.Goals as goal

pub returns : goal.returns
returns c = stays_under_heads
