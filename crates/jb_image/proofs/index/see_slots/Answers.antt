use Rattle.std.proofs.Common.{◌∙◌, subst, arith}
use Rattle.jb_record.specs.declared.index.IndexRecord.{IndexRecord}
use Rattle.jb_image.specs.Reading.{IsSeenAs}
use Rattle.jb_image.proofs.FileBytes.{reads_on}
use Rattle.jb_image.proofs.SlotsSoFar.{AreSeenSoFar-next}
use Rattle.jb_image.proofs.WindowLemmas.{window_kept}
use Rattle.jb_image.proofs.index.see_slots.Goals as goal

pub loop-k-preserved : goal.loop-k-preserved
loop-k-preserved g c =
    let within = rw c.in-Ok.is at c.in_ok-slot.ensures.within in
    let found = rw c.in-Ok.is at c.in_ok-slot.ensures.found in
    let so_far = c.loop-k.invariant.so_far in
    let kept = c.read_entry.ensures.kept in
    record {
      so_far = AreSeenSoFar-next _ _ _ c.args.lengths.now.headers c.loop-k.k c.loop-k.slots.items _ c.in-Ok.slot
          so_far (reads_on _ _ _ kept c.see_slot.ensures.kept) (c.in_ok-slot.ensures.faults.quiet ∙ c.in_ok-entry.ensures.faults.quiet) c.in_ok-push-in-Ok.ensures.items within
          (λ files contents_is.
          let now = so_far.kept.contents ∙ contents_is in
          subst (λ (e : IndexRecord). IsSeenAs files e c.in-Ok.slot) (c.in_ok-entry.ensures.found files now) (found files (kept.contents ∙ now)));
      window = c.see_slot.ensures.window;
      index = window_kept _ _ _ _ _ c.see_slot.ensures.kept.contents c.read_entry.ensures.index;
    }

pub returns-in-Err-clause-found : goal.returns-in-Err-clause-found
returns-in-Err-clause-found g c = λ files contents_is.
    let so_far = c.loop-k.invariant.so_far in
    let low = c.loop-k-test.true in
    let index = (c.requires.lengths files contents_is).index in
    record { few = omega (arith, so_far.count_is, c.requires.all, index, low); each = so_far.told files contents_is }

pub returns-clause-found : goal.returns-clause-found
returns-clause-found g c = λ files contents_is.
    let so_far = c.loop-k.invariant.so_far in
    let low = c.loop-k.auto.k-end in
    let index = (c.requires.lengths files contents_is).index in
    record { few = omega (arith, so_far.count_is, c.requires.all, index, low); each = so_far.told files contents_is }

pub returns-in_err-entry-clause-kept : goal.returns-in_err-entry-clause-kept
returns-in_err-entry-clause-kept g c = reads_on _ _ _ c.loop-k.invariant.so_far.kept c.read_entry.ensures.kept

pub returns-in_err-entry-clause-window : goal.returns-in_err-entry-clause-window
returns-in_err-entry-clause-window g c = window_kept _ _ _ _ _ c.read_entry.ensures.kept.contents c.loop-k.invariant.window

pub returns-in_err-slot-clause-kept : goal.returns-in_err-slot-clause-kept
returns-in_err-slot-clause-kept g c = reads_on _ _ _ (reads_on _ _ _ c.loop-k.invariant.so_far.kept c.read_entry.ensures.kept) c.see_slot.ensures.kept

pub returns-in_err-slot-clause-window : goal.returns-in_err-slot-clause-window
returns-in_err-slot-clause-window g c = c.see_slot.ensures.window

pub returns-in-Err-clause-kept : goal.returns-in-Err-clause-kept
returns-in-Err-clause-kept g c = reads_on _ _ _ (reads_on _ _ _ c.loop-k.invariant.so_far.kept c.read_entry.ensures.kept) c.see_slot.ensures.kept

pub returns-in-Err-clause-window : goal.returns-in-Err-clause-window
returns-in-Err-clause-window g c = c.see_slot.ensures.window

pub returns-in_err-push-in-Ok-clause-kept : goal.returns-in_err-push-in-Ok-clause-kept
returns-in_err-push-in-Ok-clause-kept g c = reads_on _ _ _ (reads_on _ _ _ c.loop-k.invariant.so_far.kept c.read_entry.ensures.kept) c.see_slot.ensures.kept

pub returns-in_err-push-in-Ok-clause-window : goal.returns-in_err-push-in-Ok-clause-window
returns-in_err-push-in-Ok-clause-window g c = c.see_slot.ensures.window
