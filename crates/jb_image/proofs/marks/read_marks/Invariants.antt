use Rattle.jb_disk.specs.declared.file.FileId.TheVariants.{Jlr}
use Rattle.jb_image.specs.Windows.{IsWindowOn}
use Rattle.jb_image.proofs.SlotsSoFar.{AreMarksSoFar}
use Rattle.jb_image.proofs.marks.read_marks.Given as goal

abbrev pub invariant-loop-k : goal.invariant-loop-k
invariant-loop-k g l = record {
  so_far : AreMarksSoFar (g.D.Disk.device l.initial.disk) (g.D.Disk.device l.disk) l.k l.marks;
  window : IsWindowOn Jlr l.len (g.D.Disk.device l.disk).contents l.window;
}
