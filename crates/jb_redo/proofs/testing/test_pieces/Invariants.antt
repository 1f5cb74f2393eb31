use Rattle.std.proofs.Common.{◌≡◌}
use Rattle.std.specs.Option.{ForSome}
use Rattle.jb_disk.specs.Device.{OnlyReads}
use Rattle.jb_redo.specs.Walk.{HasPiecesTo}
use Rattle.jb_redo.proofs.testing.test_pieces.Given as goal

abbrev pub invariant-loop : goal.invariant-loop
invariant-loop g l = record {
  kept : OnlyReads (g.D.Disk.device l.initial.disk) (g.D.Disk.device l.disk);
  quiet : (g.D.Disk.device l.disk).faults ≡ (g.D.Disk.device l.initial.disk).faults;
  told : ForSome (g.D.Disk.device l.initial.disk).contents (λ files. HasPiecesTo files l.count l.counter l.at l.lengths.ends);
}
