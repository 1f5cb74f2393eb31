use Rattle.std.proofs.Common.{◌≡◌, length}
use Rattle.jb_disk.specs.Device.{Turns, TellsAlike}
use Rattle.jb_redo.specs.Applying.{KeepsWay}
use Rattle.jb_redo.proofs.ApplyLemmas.{AppliedSoFar}
use Rattle.jb_redo.proofs.applying.apply_pieces.Given as goal

abbrev pub invariant-loop : goal.invariant-loop
invariant-loop g l = record {
  size : length l.buffer ≡ 16384;
  quiet : (g.D.Disk.device l.disk).faults ≡ (g.D.Disk.device l.initial.disk).faults;
  alike : TellsAlike (g.D.Disk.device l.initial.disk) (g.D.Disk.device l.disk);
  told : Turns (AppliedSoFar l.count l.counter l.at l.lengths.ends) (g.D.Disk.device l.initial.disk).contents (g.D.Disk.device l.disk).contents;
  images : KeepsWay (g.D.Disk.device l.initial.disk) (g.D.Disk.device l.disk);
}
