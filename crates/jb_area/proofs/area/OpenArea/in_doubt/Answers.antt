use Rattle.jb_area.proofs.DoubtLemmas.{doubt_reads}
use Rattle.jb_area.proofs.area.OpenArea.in_doubt.Goals as goal

pub returns-in-Doubtful-clause-opens : goal.returns-in-Doubtful-clause-opens
returns-in-Doubtful-clause-opens g c = doubt_reads g.D.Disk.device c.args.self.now

pub returns-in_default-clause-opens : goal.returns-in_default-clause-opens
returns-in_default-clause-opens g c = doubt_reads g.D.Disk.device c.args.self.now
