use Rattle.jb_shared.proofs.KeepingLemmas.{survives}
use Rattle.jb_shared.proofs.laws.shown_survives_stops.Goals as goal

pub returns : goal.returns
returns g c = survives g.D.Disk.device
