use Rattle.std.proofs.Common.{◌∙◌}
use Rattle.jb_files.proofs.FailuresLemmas.{others-set}
use Rattle.jb_files.proofs.folder.Folder.resize.Goals as goal

pub returns-clause-others : goal.returns-clause-others
returns-clause-others g c = λ other apart. others-set _ _ _ other (λ same. apart (same ∙ c.number-n.ensures))
