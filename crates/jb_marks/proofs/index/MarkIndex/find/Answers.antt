use Rattle.std.proofs.Common.{sym}
use Rattle.jb_marks.proofs.MarkLemmas.{mark_of-first, mark_of-none}
use Rattle.jb_marks.proofs.index.MarkIndex.find.Goals as goal

pub returns-in-Ok : goal.returns-in-Ok
returns-in-Ok c = sym (mark_of-first _ _ _ _ _ c.in-Ok.ensures)

pub returns-in-Err : goal.returns-in-Err
returns-in-Err c = sym (mark_of-none _ _ _ c.in-Err.ensures.none)
