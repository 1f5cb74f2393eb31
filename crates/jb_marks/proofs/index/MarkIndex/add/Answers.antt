use Rattle.std.proofs.Common.{arith}
use Rattle.jb_marks.proofs.OrderLemmas.{ordered-append}
use Rattle.jb_marks.proofs.index.MarkIndex.add.Goals as goal

pub returns-clause-ordered : goal.returns-clause-ordered
returns-clause-ordered c =
    rw c.in-Ok.ensures.items (ordered-append c.args.mark _ _ _ (rw (← c.self.view_is) at c.requires.ordered) (omega arith) (rw c.deref.ensures.value at c.in-Err.ensures))
