use Rattle.jb_link.proofs.LawLemmas.{stays_under_relink}
use Rattle.jb_link.proofs.laws.stays_under_relink.Goals as goal

pub returns : goal.returns
returns c = stays_under_relink
