use Rattle.std.proofs.Common.{◌≡◌, ◌+◌, ◌*◌, ◌≤◌}
use Rattle.std.specs.Option.{ForSome}
use Rattle.jb_disk.specs.Device.{OnlyReads}
use Rattle.jb_redo.specs.Walk.{AreWithin, HasLengthsTo}
use Rattle.jb_redo.proofs.lengths.read_lengths.Given as goal

abbrev pub invariant-loop : goal.invariant-loop
invariant-loop g l = record {
  kept : OnlyReads (g.D.Disk.device l.initial.disk) (g.D.Disk.device l.disk);
  quiet : (g.D.Disk.device l.disk).faults ≡ (g.D.Disk.device l.initial.disk).faults;
  place : l.at ≤ 32 + 12 * l.counter;
  version : l.ends.version ≡ l.sizes.version;
  within : AreWithin l.sizes l.ends;
  told : ForSome (g.D.Disk.device l.initial.disk).contents (λ files. HasLengthsTo files l.count l.counter l.least l.at l.ends);
}
