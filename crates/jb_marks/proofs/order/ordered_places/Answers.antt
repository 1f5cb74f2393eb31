use Rattle.std.proofs.Common.{arith, rules, ◌<◌, length}
use Rattle.std.proofs.lemmas.List.Sorted.{All-permutation, Contains-permutation, IsNonDecreasingBy-from_sort_by}
use Rattle.jb_marks.specs.Order.{place_number}
use Rattle.jb_marks.proofs.OrderLemmas.{below-more}
use Rattle.jb_marks.proofs.order.ordered_places.Goals as goal

pub loop-place-preserved : goal.loop-place-preserved
loop-place-preserved c = rw c.in_ok-push.ensures.items (below-more _ _ c.loop-place.invariant)

pub returns : goal.returns
returns c = record {
  places = record {
    count = omega (arith, c.sort_unstable_by.ensures.len, c.loop-place.invariant.count);
    each = All-permutation (λ place. place < length c.args.items.now) _ _ c.sort_unstable_by.ensures.permutation (λ k d within. omega (arith, c.loop-place.invariant.each k d within));
    whole = λ place within. Contains-permutation _ _ place c.sort_unstable_by.ensures.permutation (c.loop-place.invariant.whole place (omega arith));
  };
  rising = IsNonDecreasingBy-from_sort_by (place_number c.args.items.now) _ c.sort_unstable_by.ensures.sorted (λ a r f called. search rules);
}
