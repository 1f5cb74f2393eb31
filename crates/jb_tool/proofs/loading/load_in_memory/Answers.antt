use Rattle.std.proofs.Common.{ap}
use Rattle.jb_disk.specs.Device.{Device}
use Rattle.jb_tool.proofs.LoadBaseLemmas.{told_empty}
use Rattle.jb_tool.proofs.loading.load_in_memory.Goals as goal

pub load-answer-requires-clause-empty : goal.load-answer-requires-clause-empty
load-answer-requires-clause-empty c = told_empty _ (ap (λ (d : Device). d.contents) c.in_ok-disk.ensures)
