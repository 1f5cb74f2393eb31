use Rattle.std.proofs.Common.{◌≡◌, drop}
use Rattle.jb_disk.specs.Device.{OnlyReads}
use Rattle.jb_pack.proofs.CopyLemmas.{IsCopied}
use Rattle.jb_pack.proofs.texts.put_texts.Given as goal

abbrev pub invariant-loop-slot : goal.invariant-loop-slot
invariant-loop-slot g l = record {
  copied : IsCopied l.loaded (g.D.Disk.device l.initial.disk).contents l.slots l.initial.redo l.redo l.run l.end (drop l.slot-index l.slots);
  kept : OnlyReads (g.D.Disk.device l.initial.disk) (g.D.Disk.device l.disk);
  quiet : (g.D.Disk.device l.disk).faults ≡ (g.D.Disk.device l.initial.disk).faults;
}
