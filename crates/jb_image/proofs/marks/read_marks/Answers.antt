use Rattle.jb_image.proofs.FileBytes.{reads_on}
use Rattle.jb_image.proofs.SlotsSoFar.{AreMarksSoFar-next}
use Rattle.jb_image.proofs.marks.read_marks.Goals as goal

pub loop-k-preserved : goal.loop-k-preserved
loop-k-preserved g c = record {
  so_far = AreMarksSoFar-next _ _ _ c.loop-k.k c.loop-k.marks _ c.in_ok-read_mark.field-0 c.loop-k.invariant.so_far c.read_mark.ensures.kept
      c.in_ok-read_mark.ensures.faults.quiet c.in_ok-push.ensures.ok c.in_ok-read_mark.ensures.found;
  window = c.read_mark.ensures.window;
}

pub returns-in_err-read_mark-clause-kept : goal.returns-in_err-read_mark-clause-kept
returns-in_err-read_mark-clause-kept g c = reads_on _ _ _ c.loop-k.invariant.so_far.kept c.read_mark.ensures.kept

pub returns-in_err-push-clause-kept : goal.returns-in_err-push-clause-kept
returns-in_err-push-clause-kept g c = reads_on _ _ _ c.loop-k.invariant.so_far.kept c.read_mark.ensures.kept
