use Rattle.jb_pack.proofs.CopiesLemmas.{IsCopying}
use Rattle.jb_pack.proofs.copying.copy_texts.Given as goal

abbrev pub invariant-loop-place : goal.invariant-loop-place
invariant-loop-place g l =
    IsCopying l.loaded (g.D.Disk.device l.initial.disk) l.initial.copies l.fn.reach.behind (g.D.Disk.device l.disk) l.copies l.run l.end l.next l.place
