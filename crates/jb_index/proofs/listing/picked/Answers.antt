use Rattle.std.proofs.Common.{◌≡◌, ◌&&◌, ◌-◌, Bool, length, ap, sym, ◌∙◌, arith}
use Rattle.jb_state.specs.declared.summary.Summary.{Summary}
use Rattle.jb_index.specs.Answer.{is_listed}
use Rattle.jb_index.specs.Wanted.{is_kind}
use Rattle.jb_index.proofs.ListLemmas.{few_more, picked_enough, picked_none, picked_one}
use Rattle.jb_index.proofs.listing.picked.Goals as goal
use Rattle.jb_index.proofs.listing.picked.Goals.{then-is_wanted+in_ok-push, else-is_wanted}

pub returns-then-as_slice-most : goal.returns-then-as_slice-most
returns-then-as_slice-most c =
    let wants : Summary → Bool = λ one. is_listed c.args.rules.now c.args.user.now one && is_kind c.args.user.now c.args.wanted one in
    picked_enough wants _ (c.loop-place.place - c.args.start) c.args.most c.loop-place.found (sym (ap length c.as_slice.ensures) ∙ c.if-as_slice-most.true) c.loop-place.invariant.found

pub loop-place-preserved : goal.loop-place-preserved
loop-place-preserved c =
    let wants : Summary → Bool = λ one. is_listed c.args.rules.now c.args.user.now one && is_kind c.args.user.now c.args.wanted one in
    record {
      found = elim c.if-is_wanted.branch [
        | then-is_wanted+in_ok-push w ↦
            picked_one wants c.args.summaries.now.items c.args.start c.loop-place.place c.index-summary.result.now c.loop-place.found c.if-is_wanted.found
            c.loop-place.invariant.from (omega arith) c.index-summary.ensures (sym c.is_wanted.ensures ∙ w.if-is_wanted.true)
            (w.found-is ∙ w.in_ok-push.ensures.ok) c.loop-place.invariant.found
        | else-is_wanted w ↦
            picked_none wants c.args.summaries.now.items c.args.start c.loop-place.place c.index-summary.result.now c.loop-place.found c.if-is_wanted.found
            c.loop-place.invariant.from (omega arith) c.index-summary.ensures (sym c.is_wanted.ensures ∙ w.if-is_wanted.false)
            w.found-is c.loop-place.invariant.found
      ];
      few = elim c.if-is_wanted.branch [
        | then-is_wanted+in_ok-push w ↦
            few_more c.loop-place.found c.if-is_wanted.found c.index-summary.result.now c.args.most (w.found-is ∙ w.in_ok-push.ensures.ok) c.loop-place.invariant.few
            (λ full. c.if-as_slice-most.false (ap length c.as_slice.ensures ∙ full))
        | else-is_wanted w ↦ (let same : length c.if-is_wanted.found ≡ length c.loop-place.found = ap length w.found-is in omega (arith, c.loop-place.invariant.few))
      ];
      from = omega arith;
    }
