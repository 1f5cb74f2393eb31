use Rattle.std.proofs.Common.{arith}
use Rattle.jb_tiered.proofs.PieceLemmas.{went_on}
use Rattle.jb_tiered.proofs.pieces.open_gap.Goals as goal

pub loop-gap-preserved : goal.loop-gap-preserved
loop-gap-preserved g c = (
  omega arith,
  omega arith,
  went_on _ _ _ _ _ c.index_mut.result.now c.pop_back.new.self c.index_mut-in-loop-gap.result.now c.push_front_reserved.new.self c.in-Some.moved c.loop-gap.invariant.2
      (omega arith) (omega arith) c.index_mut.ensures.value c.in-Some.ensures.items c.in-Some.ensures.cases c.in-Some.ensures.capacity
      c.index_mut-in-loop-gap.ensures.value c.push_front_reserved.ensures.items c.push_front_reserved.ensures.len c.push_front_reserved.ensures.capacity,
)
