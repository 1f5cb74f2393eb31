use Rattle.std.proofs.Common.{rules}
use Rattle.jb_disk.specs.Memory.{of_length}
use Rattle.jb_disk.proofs.six.resize.Goals as goal

pub returns-clause-ok : goal.returns-clause-ok
unfolding of_length
returns-clause-ok c = search rules
