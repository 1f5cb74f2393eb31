use Rattle.std.proofs.Common.{◌≡◌, ◌+◌, ◌≤◌, ◌&&◌, ◌-◌, Bool, true, false, List, cond, drop, filter, length, length-drop, nat_le, subst, take, ap, sym, ◌∙◌, arith}
use Rattle.std.proofs.Math.Nat.{zero-max}
use Rattle.std.proofs.lemmas.Bool.{le-leb}
use Rattle.std.proofs.lemmas.List.{take_all}
use Rattle.jb_state.specs.declared.summary.Summary.{Summary}
use Rattle.jb_index.specs.Answer.{is_listed}
use Rattle.jb_index.specs.Cut.{IsSplitAt}
use Rattle.jb_index.specs.Wanted.{is_kind}
use Rattle.jb_index.proofs.ListLemmas.{counted_more, few_filtered, filter_all}
use Rattle.jb_index.proofs.PlaceLemmas.{kind_behind}
use Rattle.jb_index.proofs.listing.count_wanted.Goals as goal
use Rattle.jb_index.proofs.listing.count_wanted.Goals.{then-is_wanted, else-is_wanted}

pub overflow_add-count : goal.overflow_add-count
overflow_add-count c =
    let wants : Summary → Bool = λ one. is_listed c.args.rules.now c.args.user.now one && is_kind c.args.user.now c.args.wanted one in
    let behind : List Summary = drop c.place_of-start.result c.args.summaries.now.items in
    let few : length (filter wants (take (c.loop-place.place - c.place_of-start.result) behind)) ≤ c.loop-place.place - c.place_of-start.result
    = few_filtered wants (c.loop-place.place - c.place_of-start.result) behind in
    omega (arith, c.loop-place.invariant.count)

pub loop-place-preserved : goal.loop-place-preserved
loop-place-preserved c =
    let wants : Summary → Bool = λ one. is_listed c.args.rules.now c.args.user.now one && is_kind c.args.user.now c.args.wanted one in
    let more : (b : Bool) → wants c.index.result.now ≡ b
    → length (filter wants (take (c.loop-place.place + 1 - c.place_of-start.result) (drop c.place_of-start.result c.args.summaries.now.items))) ≡ c.loop-place.count + cond b 1 0
    = λ b passes.
    counted_more wants c.args.summaries.now.items c.place_of-start.result c.loop-place.place c.index.result.now c.loop-place.invariant.from (omega arith) c.index.ensures
    ∙ ap (λ n. n + cond (wants c.index.result.now) 1 0) (sym c.loop-place.invariant.count) ∙ ap (λ b. c.loop-place.count + cond b 1 0) passes in
    record {
      count = elim c.if-is_wanted.branch [
        | then-is_wanted w ↦ w.count-is ∙ sym (more true (sym c.is_wanted.ensures ∙ w.if-is_wanted.true))
        | else-is_wanted w ↦ (let same : length (filter wants (take (c.loop-place.place + 1 - c.place_of-start.result) (drop c.place_of-start.result c.args.summaries.now.items))) ≡ c.loop-place.count + 0
            = more false (sym c.is_wanted.ensures ∙ w.if-is_wanted.false) in omega (arith, same, w.count-is))
      ];
      from = omega arith;
    }

pub returns : goal.returns
returns c =
    let wants : Summary → Bool = λ one. is_listed c.args.rules.now c.args.user.now one && is_kind c.args.user.now c.args.wanted one in
    let kind : Summary → Bool = λ one. is_kind c.args.user.now c.args.wanted one in
    let shown : List Summary = filter (is_listed c.args.rules.now c.args.user.now) c.args.summaries.now.items in
    let behind : List Summary = drop c.place_of-start.result c.args.summaries.now.items in
    let all : take (c.loop-place.place - c.place_of-start.result) behind ≡ behind
    = take_all _ behind (omega (arith, length-drop c.place_of-start.result c.args.summaries.now.items)) in
    c.loop-place.invariant.count ∙ ap (λ l. length (filter wants l)) all
    ∙ ap length (sym (kind_behind kind (is_listed c.args.rules.now c.args.user.now) c.args.summaries.now.items 0 c.lowest.result c.place_of-start.result (c.lowest.ensures c.args.user.now)
    (subst (λ n. IsSplitAt c.args.summaries.now.items n c.place_of-start.result) (sym (zero-max c.lowest.result)) c.place_of-start.ensures)))
    ∙ ap length (filter_all (λ one. nat_le 0 one.number) (filter kind shown) (λ k d within. le-leb _ _ (omega arith)))
