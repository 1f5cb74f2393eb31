use Rattle.std.proofs.Common.{arith, of_calls, refl, sym}
use Rattle.std.proofs.lemmas.Fn.{called}
use Rattle.jb_tiered.proofs.SearchLemmas.{answers_next, failed, passed}
use Rattle.jb_tiered.proofs.tiered.Tiered.partition_point.Goals as goal

pub loop-low-preserved-then-pred : goal.loop-low-preserved-then-pred
loop-low-preserved-then-pred g c =
    let called_so = called g.P.FnMut c.if-pred.ensures refl in (
      omega arith,
      omega arith,
      search of_calls,
      λ p answers.
          let so_far = c.loop-low.invariant.3 p answers in
          let next = answers_next g.P.FnMut _ _ _ _ _ called_so so_far.0 in
          (next.1, λ parted. passed p c.args.self.now.items c.loop-low.low _ c.loop-low.high c.index.result.now parted (so_far.1 parted) (omega arith) c.index.ensures (sym next.0)),
    )

pub loop-low-preserved : goal.loop-low-preserved
loop-low-preserved g c =
    let called_so = called g.P.FnMut c.if-pred.ensures refl in (
      omega arith,
      omega arith,
      search of_calls,
      λ p answers.
          let so_far = c.loop-low.invariant.3 p answers in
          let next = answers_next g.P.FnMut _ _ _ _ _ called_so so_far.0 in
          (next.1, λ parted. failed p c.args.self.now.items c.loop-low.low _ c.loop-low.high c.index.result.now parted (so_far.1 parted) (omega arith) c.index.ensures (sym next.0)),
    )
