use Rattle.std.proofs.Common.{◌∙◌, refl, subst, arith}
use Rattle.jb_record.specs.declared.index.IndexRecord.{IndexRecord}
use Rattle.jb_image.specs.Answers.{IsDamaged}
use Rattle.jb_image.specs.Reading.{IsSeenAs}
use Rattle.jb_image.proofs.FileBytes.{reads_on}
use Rattle.jb_image.proofs.Refusals.{first_damaged, opening_refused, refused_by_slot}
use Rattle.jb_image.proofs.RisingSoFar.{AreRisingSoFar-next}
use Rattle.jb_image.proofs.WindowLemmas.{window_kept}
use Rattle.jb_image.proofs.rising.load_rising.Goals as goal

pub returns-in-Err-clause-refused : goal.returns-in-Err-clause-refused
returns-in-Err-clause-refused g c = λ files contents_is.
    let damaged = rw c.in-Err.is at c.in_ok-seen.ensures.damaged in
    let so_far = c.loop-k.invariant.so_far.whole in
    let now = so_far.kept.contents ∙ contents_is in
    let entry_is = c.in_ok-entry.ensures.found files now in
    let index = (c.requires.lengths files contents_is).index in
    let low = c.loop-k-test.true in
    refused_by_slot files _ c.in-Err.damage _ c.of_number.ensures
    (first_damaged files c.args.base _ c.loop-k.k c.in-Err.damage (c.requires.base files contents_is) refl
    (omega (arith, c.requires.all, index, low)) (so_far.told files contents_is)
    (subst (λ (e : IndexRecord). IsDamaged files e c.in-Err.damage) entry_is (damaged files (c.read_entry.ensures.kept.contents ∙ now))))

pub returns-in-Err-2-clause-refused : goal.returns-in-Err-2-clause-refused
returns-in-Err-2-clause-refused g c = λ files contents_is.
    let damaged = rw c.in-Err-2.is at c.in_ok-loaded.ensures.damaged in
    let found = rw c.in-Ok.is at c.in_ok-seen.ensures.found in
    let so_far = c.loop-k.invariant.so_far.whole in
    let now = so_far.kept.contents ∙ contents_is in
    let by_entry = c.read_entry.ensures.kept.contents ∙ now in
    let entry_is = c.in_ok-entry.ensures.found files now in
    let index = (c.requires.lengths files contents_is).index in
    let low = c.loop-k-test.true in
    let seen_as = subst (λ (e : IndexRecord). IsSeenAs files e c.in-Ok.seen) entry_is (found files by_entry) in
    refused_by_slot files _ c.in-Err-2.damage _ c.of_number-in-Err-2.ensures
    (first_damaged files c.args.base _ c.loop-k.k c.in-Err-2.damage (c.requires.base files contents_is) refl
    (omega (arith, c.requires.all, index, low)) (so_far.told files contents_is)
    (damaged files (c.see_slot.ensures.kept.contents ∙ by_entry) _ seen_as))

pub loop-k-preserved : goal.loop-k-preserved
loop-k-preserved g c =
    let within = rw c.in-Ok.is at c.in_ok-seen.ensures.within in
    let found = rw c.in-Ok.is at c.in_ok-seen.ensures.found in
    let from = rw c.in-Ok-2.is at c.in_ok-loaded.ensures.found in
    let named = rw c.in-Ok-2.is at c.in_ok-loaded.ensures.named in
    let so_far = c.loop-k.invariant.so_far in
    let by_entry = c.read_entry.ensures in
    let by_slot = c.see_slot.ensures in
    let by_load = c.load_slot.ensures in
    record {
      so_far = AreRisingSoFar-next _ _ _ c.args.lengths.now.headers c.args.lengths.now.texts c.loop-k.k c.loop-k.end c.in-Some.behind
          c.loop-k.slots _ c.in-Ok.seen c.in-Ok-2.loaded so_far
          (reads_on _ _ _ (reads_on _ _ _ by_entry.kept by_slot.kept) by_load.kept) (c.in_ok-loaded.ensures.faults.quiet ∙ c.in_ok-seen.ensures.faults.quiet ∙ c.in_ok-entry.ensures.faults.quiet)
          c.in_ok-push-in-Ok-2.ensures.ok within from c.in-Some.ensures
          (λ files contents_is.
          let now = so_far.whole.kept.contents ∙ contents_is in
          let read = by_entry.kept.contents ∙ now in
          named files (by_slot.kept.contents ∙ read) _
          (subst (λ (e : IndexRecord). IsSeenAs files e c.in-Ok.seen) (c.in_ok-entry.ensures.found files now) (found files read)));
      window = by_load.window;
      index = window_kept _ _ _ _ _ (by_load.kept.contents ∙ by_slot.kept.contents) by_entry.index;
    }

pub returns-in_err-entry-clause-kept : goal.returns-in_err-entry-clause-kept
returns-in_err-entry-clause-kept g c = reads_on _ _ _ c.loop-k.invariant.so_far.whole.kept c.read_entry.ensures.kept

pub returns-in_err-entry-clause-window : goal.returns-in_err-entry-clause-window
returns-in_err-entry-clause-window g c = window_kept _ _ _ _ _ c.read_entry.ensures.kept.contents c.loop-k.invariant.window

pub returns-in_err-seen-clause-kept : goal.returns-in_err-seen-clause-kept
returns-in_err-seen-clause-kept g c = reads_on _ _ _ (reads_on _ _ _ c.loop-k.invariant.so_far.whole.kept c.read_entry.ensures.kept) c.see_slot.ensures.kept

pub returns-in_err-seen-clause-window : goal.returns-in_err-seen-clause-window
returns-in_err-seen-clause-window g c = c.see_slot.ensures.window

pub returns-in-Err-clause-kept : goal.returns-in-Err-clause-kept
returns-in-Err-clause-kept g c = reads_on _ _ _ (reads_on _ _ _ c.loop-k.invariant.so_far.whole.kept c.read_entry.ensures.kept) c.see_slot.ensures.kept

pub returns-in-Err-clause-window : goal.returns-in-Err-clause-window
returns-in-Err-clause-window g c = c.see_slot.ensures.window

pub returns-in_default-clause-kept : goal.returns-in_default-clause-kept
returns-in_default-clause-kept g c = reads_on _ _ _ (reads_on _ _ _ c.loop-k.invariant.so_far.whole.kept c.read_entry.ensures.kept) c.see_slot.ensures.kept

pub returns-in_default-clause-window : goal.returns-in_default-clause-window
returns-in_default-clause-window g c = c.see_slot.ensures.window

pub returns-in_err-loaded-clause-kept : goal.returns-in_err-loaded-clause-kept
returns-in_err-loaded-clause-kept g c = reads_on _ _ _ (reads_on _ _ _ (reads_on _ _ _ c.loop-k.invariant.so_far.whole.kept c.read_entry.ensures.kept) c.see_slot.ensures.kept) c.load_slot.ensures.kept

pub returns-in_err-loaded-clause-window : goal.returns-in_err-loaded-clause-window
returns-in_err-loaded-clause-window g c = c.load_slot.ensures.window

pub returns-in-Err-2-clause-kept : goal.returns-in-Err-2-clause-kept
returns-in-Err-2-clause-kept g c = reads_on _ _ _ (reads_on _ _ _ (reads_on _ _ _ c.loop-k.invariant.so_far.whole.kept c.read_entry.ensures.kept) c.see_slot.ensures.kept) c.load_slot.ensures.kept

pub returns-in-Err-2-clause-window : goal.returns-in-Err-2-clause-window
returns-in-Err-2-clause-window g c = c.load_slot.ensures.window

pub returns-in_err-push-in-Ok-2-clause-kept : goal.returns-in_err-push-in-Ok-2-clause-kept
returns-in_err-push-in-Ok-2-clause-kept g c = reads_on _ _ _ (reads_on _ _ _ (reads_on _ _ _ c.loop-k.invariant.so_far.whole.kept c.read_entry.ensures.kept) c.see_slot.ensures.kept) c.load_slot.ensures.kept

pub returns-in_err-push-in-Ok-2-clause-window : goal.returns-in_err-push-in-Ok-2-clause-window
returns-in_err-push-in-Ok-2-clause-window g c = c.load_slot.ensures.window

pub returns-in_err-entry-clause-refused : goal.returns-in_err-entry-clause-refused
returns-in_err-entry-clause-refused g c = opening_refused c.from_residual-in_err-entry.result _ c.in_err-entry.field-0.0 c.from_residual-in_err-entry.ensures.1

pub returns-in_err-seen-clause-refused : goal.returns-in_err-seen-clause-refused
returns-in_err-seen-clause-refused g c = opening_refused c.from_residual-in_err-seen.result _ c.in_err-seen.field-0.0 c.from_residual-in_err-seen.ensures.1

pub returns-in_err-loaded-clause-refused : goal.returns-in_err-loaded-clause-refused
returns-in_err-loaded-clause-refused g c = opening_refused c.from_residual-in_err-loaded.result _ c.in_err-loaded.field-0.0 c.from_residual-in_err-loaded.ensures.1
