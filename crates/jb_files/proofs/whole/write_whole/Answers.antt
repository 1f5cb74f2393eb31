use Rattle.jb_files.proofs.WholeLemmas.{writing_start, writing_by}
use Rattle.jb_files.proofs.whole.write_whole.Goals as goal

pub loop-done-init : goal.loop-done-init
loop-done-init g c = writing_start _ _ _

pub loop-done-preserved : goal.loop-done-preserved
loop-done-preserved g c = writing_by _ _ _ c.args.at c.args.bytes.now c.loop-done.done c.in_ok-taken.taken c.loop-done.invariant c.requires.within c.in_ok-taken.ensures.count c.in_ok-taken.ensures.took
