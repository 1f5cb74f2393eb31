use Rattle.std.proofs.Common.{◌∙◌, subst, arith}
use Rattle.std.proofs.lemmas.List.{get_or_default}
use Rattle.jb_image.specs.Reading.{IsLoadedFrom}
use Rattle.jb_image.specs.declared.seen.SeenSlot.{SeenSlot}
use Rattle.jb_image.specs.declared.seen.SeenSlot.TheVariants.{Empty}
use Rattle.jb_image.proofs.FileBytes.{reads_on}
use Rattle.jb_image.proofs.Refusals.{first_damaged, opening_refused, refused_by_slot}
use Rattle.jb_image.proofs.SlotsSoFar.{AreLoadedSoFar-next}
use Rattle.jb_image.proofs.loading.load_slots.Goals as goal

pub returns-in-Err-clause-refused : goal.returns-in-Err-clause-refused
returns-in-Err-clause-refused g c = λ files contents_is.
    let damaged = rw c.in-Err.is at c.in_ok-loaded.ensures.damaged in
    let so_far = c.loop-slot.invariant.so_far.whole in
    let seen = c.requires.seen files contents_is in
    let low = c.loop-slot-test.true in
    refused_by_slot files c.loop-slot.number c.in-Err.damage _ c.of_number.ensures
    (first_damaged files c.args.base c.loop-slot.number c.loop-slot.slot-index c.in-Err.damage (c.requires.base files contents_is) c.loop-slot.invariant.numbered
    (omega (arith, seen.few)) (so_far.told files contents_is)
    (damaged files (so_far.kept.contents ∙ contents_is) _ (seen.each c.loop-slot.slot-index _ low)))

pub loop-slot-preserved : goal.loop-slot-preserved
loop-slot-preserved g c =
    let named = rw c.in-Ok.is at c.in_ok-loaded.ensures.named in
    let found = rw c.in-Ok.is at c.in_ok-loaded.ensures.found in
    let so_far = c.loop-slot.invariant.so_far.whole in
    let low = c.loop-slot-test.true in record {
      numbered = omega (arith, c.loop-slot.invariant.numbered);
      so_far = AreLoadedSoFar-next _ _ _ c.args.lengths.now.texts c.loop-slot.slot-index c.args.seen.now c.loop-slot.slots _ c.in-Ok.loaded
          c.loop-slot.invariant.so_far c.load_slot.ensures.kept c.in_ok-loaded.ensures.faults.quiet c.in_ok-push-in-Ok.ensures.ok
          (λ d. subst (λ (s : SeenSlot). IsLoadedFrom c.args.lengths.now.texts s c.in-Ok.loaded) (get_or_default c.args.seen.now c.loop-slot.slot-index Empty d low) found)
          (λ files contents_is. named files (so_far.kept.contents ∙ contents_is) _ ((c.requires.seen files contents_is).each c.loop-slot.slot-index _ low));
      window = c.load_slot.ensures.window;
    }

pub returns-in_err-loaded-clause-kept : goal.returns-in_err-loaded-clause-kept
returns-in_err-loaded-clause-kept g c = reads_on _ _ _ c.loop-slot.invariant.so_far.whole.kept c.load_slot.ensures.kept

pub returns-in-Err-clause-kept : goal.returns-in-Err-clause-kept
returns-in-Err-clause-kept g c = reads_on _ _ _ c.loop-slot.invariant.so_far.whole.kept c.load_slot.ensures.kept

pub returns-in_err-push-in-Ok-clause-kept : goal.returns-in_err-push-in-Ok-clause-kept
returns-in_err-push-in-Ok-clause-kept g c = reads_on _ _ _ c.loop-slot.invariant.so_far.whole.kept c.load_slot.ensures.kept

pub returns-in_err-loaded-clause-refused : goal.returns-in_err-loaded-clause-refused
returns-in_err-loaded-clause-refused g c = opening_refused c.from_residual-in_err-loaded.result _ c.in_err-loaded.field-0.0 c.from_residual-in_err-loaded.ensures.1
