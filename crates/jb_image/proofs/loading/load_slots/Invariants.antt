use Rattle.std.proofs.Common.{◌≡◌, ◌+◌}
use Rattle.jb_disk.specs.declared.file.FileId.TheVariants.{Jhr}
use Rattle.jb_image.specs.Windows.{IsWindowOn}
use Rattle.jb_image.proofs.SlotsSoFar.{AreLoadedSoFar}
use Rattle.jb_image.proofs.loading.load_slots.Given as goal

abbrev pub invariant-loop-slot : goal.invariant-loop-slot
invariant-loop-slot g l = record {
  numbered : l.number ≡ l.base + l.slot-index;
  so_far : AreLoadedSoFar (g.D.Disk.device l.initial.disk) (g.D.Disk.device l.disk) l.lengths.texts l.slot-index l.seen l.slots;
  window : IsWindowOn Jhr l.lengths.headers (g.D.Disk.device l.disk).contents l.window;
}
