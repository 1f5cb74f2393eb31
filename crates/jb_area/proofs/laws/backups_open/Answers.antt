use Rattle.jb_area.proofs.BackupLemmas.{backups_open_so}
use Rattle.jb_area.proofs.laws.backups_open.Goals as goal

pub returns : goal.returns
returns c = backups_open_so
