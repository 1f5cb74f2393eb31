use Rattle.jb_area_open.proofs.BackupLemmas.{backups_opened, one_state_opens}
use Rattle.jb_area_open.proofs.laws.backups_are_opened.Goals as goal

pub returns-clause-opened : goal.returns-clause-opened
returns-clause-opened c = backups_opened

pub returns-clause-one : goal.returns-clause-one
returns-clause-one c = one_state_opens
