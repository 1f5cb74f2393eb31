use Rattle.std.proofs.Common.{◌≡◌, ◌&&◌, ◌==◌, ◌<◌, Bool, get_or, length, ap, sym, ◌∙◌, arith, eq-eqb, ne_eqb}
use Rattle.jb_index.proofs.ThreadLemmas.{root_of_one}
use Rattle.jb_state.specs.declared.summary.Summary.{Summary}
use Rattle.jb_index.specs.Answer.{is_listed}
use Rattle.jb_index.specs.Thread.{root_in}
use Rattle.jb_index.proofs.ListLemmas.{few_more, filtered_none, filtered_one, picked_enough}
use Rattle.jb_index.proofs.PlaceLemmas.{both_pass, first_fails, second_fails}
use Rattle.jb_index.proofs.threads.with_root.Goals as goal
use Rattle.jb_index.proofs.threads.with_root.Goals.{then-roots-place+then-is_shown+in_ok-push, else-roots-place, else-roots-place-via-then-roots-place+else-is_shown, else-roots-place-via-else-roots-place}

pub returns-then-as_slice-most : goal.returns-then-as_slice-most
returns-then-as_slice-most c =
    let wants : Summary → Bool = λ one. is_listed c.args.rules.now c.args.user.now one && (root_in c.args.summaries.now.items one.number == c.args.root) in
    picked_enough wants c.args.summaries.now.items c.loop-place.place c.args.most c.loop-place.found (sym (ap length c.as_slice.ensures) ∙ c.if-as_slice-most.true) c.loop-place.invariant.found

pub loop-place-preserved : goal.loop-place-preserved
loop-place-preserved c =
    let wants : Summary → Bool = λ one. is_listed c.args.rules.now c.args.user.now one && (root_in c.args.summaries.now.items one.number == c.args.root) in
    let within : c.loop-place.place < length c.args.summaries.now.items = omega (arith, c.len-place-end.ensures) in
    let root : get_or c.args.roots.now c.loop-place.place 0 ≡ root_in c.args.summaries.now.items c.index-summary.result.now.number
    = root_of_one c.args.summaries.now.items c.args.roots.now c.loop-place.place c.index-summary.result.now c.requires within c.index-summary.ensures in
    record {
      found = elim c.if-roots-place.branch [
        | then-roots-place+then-is_shown+in_ok-push w ↦
            filtered_one wants c.args.summaries.now.items c.loop-place.place c.index-summary.result.now c.loop-place.found c.if-roots-place.found within c.index-summary.ensures
            (both_pass _ _ (sym w.is_shown.ensures ∙ w.if-is_shown.true) (eq-eqb _ _ (sym root ∙ w.if-roots-place.true)))
            (w.found-is ∙ w.in_ok-push.ensures.ok) c.loop-place.invariant.found
        | else-roots-place w ↦
            filtered_none wants c.args.summaries.now.items c.loop-place.place c.index-summary.result.now c.loop-place.found c.if-roots-place.found within c.index-summary.ensures
            (elim w.else-roots-place.branch [
              | else-roots-place-via-then-roots-place+else-is_shown w' ↦ first_fails _ _ (sym w'.is_shown.ensures ∙ w'.if-is_shown.false)
              | else-roots-place-via-else-roots-place w' ↦ second_fails _ _ (ne_eqb _ _ (λ same. w'.if-roots-place.false (root ∙ same)))
            ])
            w.found-is c.loop-place.invariant.found
      ];
      few = elim c.if-roots-place.branch [
        | then-roots-place+then-is_shown+in_ok-push w ↦
            few_more c.loop-place.found c.if-roots-place.found c.index-summary.result.now c.args.most (w.found-is ∙ w.in_ok-push.ensures.ok) c.loop-place.invariant.few
            (λ full. c.if-as_slice-most.false (ap length c.as_slice.ensures ∙ full))
        | else-roots-place w ↦ (let same : length c.if-roots-place.found ≡ length c.loop-place.found = ap length w.found-is in omega (arith, c.loop-place.invariant.few))
      ];
    }
