use Rattle.std.proofs.Common.{◌≡◌, ◌≤◌, ◌-◌, length}
use Rattle.std.specs.Option.{option_map}
use Rattle.jb_disk.specs.Device.{TellsAlike}
use Rattle.jb_redo.specs.Applying.{copied, KeepsInRange}
use Rattle.jb_redo.proofs.applying.copy_part.Given as goal

abbrev pub invariant-loop-done : goal.invariant-loop-done
invariant-loop-done g l = record {
  size : length l.buffer ≡ length l.initial.buffer;
  few : l.done ≤ l.part.len;
  quiet : (g.D.Disk.device l.disk).faults ≡ (g.D.Disk.device l.initial.disk).faults;
  alike : TellsAlike (g.D.Disk.device l.initial.disk) (g.D.Disk.device l.disk);
  told : (g.D.Disk.device l.disk).contents ≡ option_map (copied l.part l.done) (g.D.Disk.device l.initial.disk).contents;
  images : KeepsInRange l.part.to l.part.to_at l.part.len (g.D.Disk.device l.initial.disk) (g.D.Disk.device l.disk);
}

abbrev pub decreases-loop-done : goal.decreases-loop-done
decreases-loop-done g l = l.part.len - l.done
