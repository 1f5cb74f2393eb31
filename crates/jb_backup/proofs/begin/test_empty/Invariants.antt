use Rattle.std.proofs.Common.{◌≡◌}
use Rattle.jb_disk.specs.Device.{OnlyReads}
use Rattle.jb_backup.proofs.BeginLemmas.{AreEmptyTo}
use Rattle.jb_backup.proofs.begin.test_empty.Given as goal

abbrev pub invariant-loop-number : goal.invariant-loop-number
invariant-loop-number g l = record {
  empty : AreEmptyTo l.number (g.E.Disk.device l.initial.onto).contents;
  reads : OnlyReads (g.E.Disk.device l.initial.onto) (g.E.Disk.device l.onto);
  quiet : (g.E.Disk.device l.onto).faults ≡ (g.E.Disk.device l.initial.onto).faults;
}
