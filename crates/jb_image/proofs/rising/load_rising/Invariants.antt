use Rattle.jb_disk.specs.declared.file.FileId.TheVariants.{Jdx, Jhr}
use Rattle.jb_image.specs.Windows.{IsWindowOn}
use Rattle.jb_image.proofs.RisingSoFar.{AreRisingSoFar}
use Rattle.jb_image.proofs.rising.load_rising.Given as goal

abbrev pub invariant-loop-k : goal.invariant-loop-k
invariant-loop-k g l = record {
  so_far : AreRisingSoFar (g.D.Disk.device l.initial.disk) (g.D.Disk.device l.disk) l.lengths.headers l.lengths.texts l.k l.end l.slots;
  window : IsWindowOn Jhr l.lengths.headers (g.D.Disk.device l.disk).contents l.window;
  index : IsWindowOn Jdx l.lengths.index (g.D.Disk.device l.disk).contents l.index;
}
