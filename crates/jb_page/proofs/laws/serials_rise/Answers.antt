use Rattle.jb_page.proofs.Rising.{serials_rise}
use Rattle.jb_page.proofs.laws.serials_rise.Goals as goal

pub returns : goal.returns
returns c = serials_rise
