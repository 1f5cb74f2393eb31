use Rattle.std.proofs.Common.{◌∙◌, arith}
use Rattle.jb_image.proofs.Refusals.{first_damaged, refused_by_slot}
use Rattle.jb_image.proofs.SlotsSoFar.{AreWholeSoFar-with}
use Rattle.jb_image.proofs.loading.test_slots.Goals as goal

pub returns-in-Some-clause-refused : goal.returns-in-Some-clause-refused
returns-in-Some-clause-refused g c = λ files contents_is.
    let damaged = rw c.in-Some.is at c.in_ok-test_slot.ensures.damaged in
    let so_far = c.loop-slot.invariant.so_far in
    let seen = c.requires.seen files contents_is in
    let low = c.loop-slot-test.true in
    refused_by_slot files c.loop-slot.number c.in-Some.damage _ c.of_number.ensures
    (first_damaged files c.args.base c.loop-slot.number c.loop-slot.slot-index c.in-Some.damage (c.requires.base files contents_is) c.loop-slot.invariant.numbered
    (omega (arith, seen.few)) (so_far.told files contents_is)
    (damaged files (so_far.kept.contents ∙ contents_is) _ (seen.each c.loop-slot.slot-index _ low)))

pub loop-slot-preserved : goal.loop-slot-preserved
loop-slot-preserved g c =
    let passed = rw c.in-None.is at c.in_ok-test_slot.ensures.passed in
    let so_far = c.loop-slot.invariant.so_far in
    let low = c.loop-slot-test.true in record {
      numbered = omega (arith, c.loop-slot.invariant.numbered);
      so_far = AreWholeSoFar-with _ _ _ c.loop-slot.slot-index so_far c.test_slot.ensures.kept c.in_ok-test_slot.ensures.faults.quiet
          (λ files contents_is. passed files (so_far.kept.contents ∙ contents_is) _ ((c.requires.seen files contents_is).each c.loop-slot.slot-index _ low));
      tested = λ files contents_is.
          c.test_slot.ensures.whole files (so_far.kept.contents ∙ contents_is) _ ((c.requires.seen files contents_is).each c.loop-slot.slot-index _ low);
      window = c.test_slot.ensures.window;
    }

pub returns-clause-passed : goal.returns-clause-passed
returns-clause-passed g c = λ files contents_is k low.
    c.loop-slot.invariant.so_far.told files contents_is k (omega (arith, low, c.loop-slot-test.false))
