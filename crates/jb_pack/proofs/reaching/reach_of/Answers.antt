use Rattle.std.proofs.Common.{arith, refl}
use Rattle.jb_pack.proofs.ShadowLemmas.{left-next}
use Rattle.jb_pack.proofs.reaching.reach_of.Goals as goal

pub loop-place-preserved : goal.loop-place-preserved
loop-place-preserved c =
    let next = left-next c.args.copies.now c.args.slots.now c.loop-place.place c.copy_of.result c.index-slots-place.result c.left_of.result
    c.loop-place-test.true c.copy_of.ensures c.index-slots-place.is c.left_of.ensures in
    let bytes = c.loop-place.invariant.bytes_are in
    record {
      bytes_are = omega (arith, next);
      fits = omega arith;
      room = omega arith;
    }

pub returns-then-more-budget : goal.returns-then-more-budget
returns-then-more-budget c =
    let next = left-next c.args.copies.now c.args.slots.now c.loop-place.place c.copy_of.result c.index-slots-place.result c.left_of.result
    c.loop-place-test.true c.copy_of.ensures c.index-slots-place.is c.left_of.ensures in
    let bytes = c.loop-place.invariant.bytes_are in
    record {
      behind = refl;
      within = omega arith;
      bytes = bytes;
      fits = c.loop-place.invariant.fits;
      room = c.loop-place.invariant.room;
      stops = omega (arith, next);
    }

pub returns-then-len-more-gt-SHADOW_CEILING : goal.returns-then-len-more-gt-SHADOW_CEILING
returns-then-len-more-gt-SHADOW_CEILING c =
    let next = left-next c.args.copies.now c.args.slots.now c.loop-place.place c.copy_of.result c.index-slots-place.result c.left_of.result
    c.loop-place-test.true c.copy_of.ensures c.index-slots-place.is c.left_of.ensures in
    let bytes = c.loop-place.invariant.bytes_are in
    record {
      behind = refl;
      within = omega arith;
      bytes = bytes;
      fits = c.loop-place.invariant.fits;
      room = c.loop-place.invariant.room;
      stops = (omega (arith, next), omega (arith, next));
    }
