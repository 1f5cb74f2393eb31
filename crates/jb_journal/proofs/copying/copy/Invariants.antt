use Rattle.std.proofs.Common.{◌-◌}
use Rattle.jb_journal.proofs.CopyLemmas.{Moving}
use Rattle.jb_journal.proofs.copying.copy.Given as goal

abbrev pub invariant-loop-moved : goal.invariant-loop-moved
invariant-loop-moved g l = Moving (g.D.Disk.device l.initial.disk) (g.D.Disk.device l.disk) l.whole.from l.whole.from_at l.whole.to l.whole.to_at l.len l.moved

abbrev pub decreases-loop-moved : goal.decreases-loop-moved
decreases-loop-moved g l = l.len - l.moved
