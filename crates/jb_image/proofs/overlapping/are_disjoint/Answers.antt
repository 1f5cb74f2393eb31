use Rattle.std.proofs.Common.{rules, ◌∙◌, ap, not, ◌++◌}
use Rattle.std.specs.List.{filter}
use Rattle.std.proofs.lemmas.List.Elements.{filter_from_retain}
use Rattle.std.proofs.lemmas.List.Sorted.{IsNonDecreasingBy-from_sort_by_key, answers_always}
use Rattle.jb_image.proofs.Neighbours.{answer_for, has_bytes, meet, told_by_meet}
use Rattle.jb_image.proofs.overlapping.are_disjoint.Goals as goal

pub returns : goal.returns
returns c =
    let copied = c.in_ok-extend_from_slice.ensures.items ∙ ap (λ l. l ++ c.args.extents.now) c.clear.ensures.items in
    let kept_is = filter_from_retain _ has_bytes (λ p x b q called. search rules) _ _ _ c.retain.ensures.filtered in
    answer_for c.args.extents.now c.retain.new.self.items c.sort_unstable_by_key.new.self.items c.is_sorted_by.result
    (kept_is ∙ ap (filter has_bytes) copied)
    c.sort_unstable_by_key.ensures.permutation
    (IsNonDecreasingBy-from_sort_by_key (λ x. x.start) c.sort_unstable_by_key.new.self.items c.sort_unstable_by_key.ensures.sorted (λ a r q k. search rules))
    (rw c.deref.ensures.value at (c.is_sorted_by.ensures.cases (λ x y. not (meet x y)) (answers_always _ _ _ (λ f a r g h. search (rules, told_by_meet)))))
