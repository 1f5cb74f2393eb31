use Rattle.trial_parts.proofs.LeavesLemmas.{leaves_ended}
use Rattle.trial_parts.proofs.calling.finish.Goals as goal

pub returns : goal.returns
returns g c = leaves_ended g.D.Disk.device c.args.area.now c.finish.new.self c.finish.result c.requires c.finish.ensures.ends.done c.finish.ensures.ends.doubt
