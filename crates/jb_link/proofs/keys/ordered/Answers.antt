use Rattle.std.proofs.Common.{◌≡◌, ◌+◌, ◌∙◌, ℕ, ap, arith, length, rules, subst, sym}
use Rattle.std.proofs.lemmas.List.Sorted.{IsPermutation-trans}
use Rattle.std.proofs.lemmas.Result.{IfOk-weaker}
use Rattle.jb_link.proofs.KeyLemmas.{keys_sorted}
use Rattle.jb_link.proofs.OrderLemmas.{key_order_total}
use Rattle.jb_link.proofs.RisingLemmas.{sorted_by_closure}
use Rattle.jb_link.specs.IdLists.{IsIdList}
use Rattle.jb_link.specs.Keys.{key_place, numbers_of}
use Rattle.jb_tiered.specs.Tiered.{TieredList}
use Rattle.jb_link.proofs.keys.ordered.Goals as goal

pub returns : goal.returns
returns c =
    let wide = length c.as_slice.result.now + 1 in
    let base = c.args.loaded.now.base in
    let moved = IsPermutation-trans _ _ _ c.sort_unstable.ensures.permutation c.sort_unstable_by.ensures.permutation in
    let sorted = keys_sorted c.args.kind c.args.loaded.now wide _ _ (omega arith) c.in_ok-keys.ensures moved
    (sorted_by_closure key_order_total (key_place c.args.kind c.args.loaded.now base wide) _ c.sort_unstable_by.ensures.sorted (λ a r f called. search rules)) in
    IfOk-weaker c.numbers_of.result (λ (list : TieredList ℕ). list.items ≡ numbers_of base wide c.deref.result.now) (λ (list : TieredList ℕ). IsIdList c.args.kind c.args.loaded.now list.items)
    (λ list same. subst (λ numbers. IsIdList c.args.kind c.args.loaded.now numbers) (sym (same ∙ ap (numbers_of base wide) c.deref.ensures.value)) sorted) c.numbers_of.ensures
