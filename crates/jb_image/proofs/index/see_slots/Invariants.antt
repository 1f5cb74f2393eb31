use Rattle.jb_disk.specs.declared.file.FileId.TheVariants.{Jdx, Jhr}
use Rattle.jb_image.specs.Windows.{IsWindowOn}
use Rattle.jb_image.proofs.SlotsSoFar.{AreSeenSoFar}
use Rattle.jb_image.proofs.index.see_slots.Given as goal

abbrev pub invariant-loop-k : goal.invariant-loop-k
invariant-loop-k g l = record {
  so_far : AreSeenSoFar (g.D.Disk.device l.initial.disk) (g.D.Disk.device l.disk) l.lengths.headers l.k l.slots.items;
  window : IsWindowOn Jhr l.lengths.headers (g.D.Disk.device l.disk).contents l.window;
  index : IsWindowOn Jdx l.lengths.index (g.D.Disk.device l.disk).contents l.index;
}
