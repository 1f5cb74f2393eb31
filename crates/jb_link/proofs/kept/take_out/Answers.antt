use Rattle.std.proofs.Common.{◌<◌, sym, ◌∙◌, arith, length}
use Rattle.std.proofs.lemmas.Bool.{both_ways}
use Rattle.std.proofs.lemmas.List.{get_or_default}
use Rattle.jb_link.proofs.KeptLemmas.{pair_not_taken, pair_taken, pairs_alike, parts_alike}
use Rattle.jb_link.proofs.kept.take_out.Goals as goal
use Rattle.jb_link.proofs.kept.take_out.Goals.{else-at-len-via-then-at-len+else-eq, else-at-len-via-else-at-len}

pub returns-then-eq-clause-list : goal.returns-then-eq-clause-list
returns-then-eq-clause-list c =
    let within : c.place_of-at.result < length c.args.pairs.now.items = omega (arith, c.if-at-len.true, c.len.ensures) in
    rw c.remove.ensures.items
    (pair_taken _ _ c.in-Some.pair _ _ c.requires (sym c.pair_at.ensures ∙ c.in-Some.is) within
    (λ d. get_or_default _ _ d c.index.result.now within ∙ sym c.index.ensures ∙ pairs_alike _ _ (sym c.eq.ensures ∙ c.if-eq.true)))

pub returns-else-at-len-clause-list : goal.returns-else-at-len-clause-list
returns-else-at-len-clause-list c =
    elim c.else-at-len.branch [
      | else-at-len-via-then-at-len+else-eq w ↦
          pair_not_taken _ _ c.in-Some.pair _ _ c.requires (sym c.pair_at.ensures ∙ c.in-Some.is) c.place_of-at.ensures
          (λ within here. both_ways _ (sym w.eq.ensures ∙ w.if-eq.false) (parts_alike _ _ (w.index.ensures ∙ here w.index.result.now)))
      | else-at-len-via-else-at-len w ↦
          pair_not_taken _ _ c.in-Some.pair _ _ c.requires (sym c.pair_at.ensures ∙ c.in-Some.is) c.place_of-at.ensures
          (λ within here. absurd (omega (arith, within, c.len.ensures, w.if-at-len.false)))
    ]
