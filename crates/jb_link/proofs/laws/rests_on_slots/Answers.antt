use Rattle.jb_link.proofs.LawLemmas.{rests_on_slots}
use Rattle.jb_link.proofs.laws.rests_on_slots.Goals as goal

pub returns : goal.returns
returns c = rests_on_slots
