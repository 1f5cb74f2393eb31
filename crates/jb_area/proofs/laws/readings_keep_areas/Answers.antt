use Rattle.jb_area.proofs.ReadingLemmas.{readings_keep}
use Rattle.jb_area.proofs.laws.readings_keep_areas.Goals as goal

pub returns : goal.returns
returns g c = readings_keep g.D.Disk.device
