use Rattle.std.proofs.Common.{◌≡◌}
use Rattle.jb_disk.specs.Device.{TellsAlike}
use Rattle.jb_backup.specs.Begin.{LeavesNoMore}
use Rattle.jb_backup.proofs.BeginLemmas.{AreSyncedTo}
use Rattle.jb_backup.proofs.begin.sync_all.Given as goal

abbrev pub invariant-loop-number : goal.invariant-loop-number
invariant-loop-number g l = record {
  kept : (g.E.Disk.device l.onto).contents ≡ (g.E.Disk.device l.initial.onto).contents;
  synced : AreSyncedTo l.number (g.E.Disk.device l.onto);
  crash : LeavesNoMore (g.E.Disk.device l.initial.onto).moments (g.E.Disk.device l.onto).moments;
  quiet : (g.E.Disk.device l.onto).faults ≡ (g.E.Disk.device l.initial.onto).faults;
  alike : TellsAlike (g.E.Disk.device l.initial.onto) (g.E.Disk.device l.onto);
}
