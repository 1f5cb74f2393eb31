use Rattle.jb_area_open.proofs.BackupLemmas.{unsigned_refused}
use Rattle.jb_area_open.proofs.laws.unsigned_bases_are_refused.Goals as goal

pub returns : goal.returns
returns c = unsigned_refused
