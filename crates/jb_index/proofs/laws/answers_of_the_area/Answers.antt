use Rattle.jb_index.proofs.AreaLemmas.{answers_of_area}
use Rattle.jb_index.proofs.laws.answers_of_the_area.Goals as goal

pub returns : goal.returns
returns c = answers_of_area
