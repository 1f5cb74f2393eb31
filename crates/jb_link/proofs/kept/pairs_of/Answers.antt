use Rattle.std.proofs.Common.{◌≡◌, ◌+◌, sym, ◌∙◌, arith, subst}
use Rattle.jb_link.proofs.KeptLemmas.{not_some, pairs_more, pairs_same}
use Rattle.jb_link.specs.Kept.{ArePairsBelow}
use Rattle.jb_link.proofs.kept.pairs_of.Goals as goal
use Rattle.jb_link.proofs.kept.pairs_of.Goals.{in-Some+in_ok-push, in_default}

pub loop-place-preserved : goal.loop-place-preserved
loop-place-preserved c =
    let next : c.args.loaded.now.base + c.loop-place.place + 1 ≡ c.args.loaded.now.base + (c.loop-place.place + 1) = omega arith in
    subst (λ n. ArePairsBelow c.args.loaded.now n c.match-pair_at.pairs.items) next
    (elim c.match-pair_at.branch [
      | in-Some+in_ok-push w ↦
          rw (w.pairs-is, w.in_ok-push.ensures.items) (pairs_more _ _ _ _ c.loop-place.invariant (sym c.pair_at.ensures ∙ w.in-Some.is))
      | in_default w ↦
          rw w.pairs-is (pairs_same _ _ _ c.loop-place.invariant (sym c.pair_at.ensures ∙ not_some _ w.in_default.not-Some))
    ])
