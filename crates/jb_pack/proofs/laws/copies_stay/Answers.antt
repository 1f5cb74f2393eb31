use Rattle.jb_pack.proofs.CopiesLemmas.{stays_copied}
use Rattle.jb_pack.proofs.laws.copies_stay.Goals as goal

pub returns : goal.returns
returns c = stays_copied
