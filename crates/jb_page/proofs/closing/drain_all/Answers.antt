use Rattle.std.proofs.Common.{slice_index_or, length, length-append, length-set, sym, ap, ◌∙◌, arith}
use Rattle.std.proofs.lemmas.List.{get_or-set_other, get_or_default}
use Rattle.jb_page.proofs.Drained.{drained_more}
use Rattle.jb_page.proofs.closing.drain_all.Goals as goal

pub loop-k-preserved : goal.loop-k-preserved
loop-k-preserved g c = let old = c.loop-k.invariant in let d = c.drain.ensures in let k = c.loop-k.k in let whole = c.loop-k.whole in let low = c.loop-k-test.true in let long = old.count in record {
  count = length-set whole k c.drain.new.hand ∙ old.count;
  same = λ j h le. get_or-set_other whole k j c.drain.new.hand h (λ e. absurd (omega arith)) ∙ old.same j h (omega arith);
  drained = drained_more k c.args.whole.now c.args.left.now.items c.loop-k.left.items c.drain.new.left.items (slice_index_or whole k c.index-whole-k.result)
      (λ h. sym (old.same k h (omega arith)) ∙ get_or_default whole k h c.index-whole-k.result (omega arith)) old.drained d.leaves;
  room = let few = d.leaves.few in let long = ap length d.leaves.added ∙ length-append c.loop-k.left.items d.leaves.rest in let same = d.room in let wide = old.room in omega (arith, few, long, same, wide, low);
}
