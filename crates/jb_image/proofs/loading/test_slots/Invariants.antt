use Rattle.std.proofs.Common.{◌≡◌, ◌+◌}
use Rattle.std.specs.Option.{ForSome}
use Rattle.jb_disk.specs.declared.file.FileId.TheVariants.{Jhr}
use Rattle.jb_image.specs.Reading.{AreWholeAt}
use Rattle.jb_image.specs.Windows.{IsWindowOn}
use Rattle.jb_image.proofs.SlotsSoFar.{AreWholeSoFar}
use Rattle.jb_image.proofs.loading.test_slots.Given as goal

abbrev pub invariant-loop-slot : goal.invariant-loop-slot
invariant-loop-slot g l = record {
  numbered : l.number ≡ l.base + l.slot-index;
  so_far : AreWholeSoFar (g.D.Disk.device l.initial.disk) (g.D.Disk.device l.disk) l.slot-index;
  tested : ForSome (g.D.Disk.device l.initial.disk).contents (λ files. AreWholeAt files l.whole);
  window : IsWindowOn Jhr l.lengths.headers (g.D.Disk.device l.disk).contents l.window;
}
