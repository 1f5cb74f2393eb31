use Rattle.jb_server.proofs.BackupRuns.{of_rings}
use Rattle.jb_server.proofs.laws.backups_are_of_rings.Goals as goal

pub returns : goal.returns
returns c = of_rings
