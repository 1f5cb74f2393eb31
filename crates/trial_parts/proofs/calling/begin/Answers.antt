use Rattle.trial_parts.proofs.LeavesLemmas.{leaves_begun}
use Rattle.trial_parts.proofs.calling.begin.Goals as goal

pub returns : goal.returns
returns g c = leaves_begun g.D.Disk.device c.args.area.now c.begin.new.self _ _ _ c.begin.result c.requires c.begin.ensures.begins
