use Rattle.std.proofs.Common.{◌≡◌, ◌++◌, ◌-◌, ◌+◌, ◌<◌, ◌==◌, cond, List, ℕ, length, take, drop, slice_index, slice_set, subst, sym, ap, ◌∙◌, arith}
use Rattle.std.proofs.lemmas.Grind.{get_or_default_zero}
use Rattle.std.proofs.lemmas.List.{take_at}
use Rattle.jb_state.specs.declared.links.Links.{Links}
use Rattle.jb_link.proofs.PlanLemmas.{IsMetFrom, met_live_slot, parent_at_in_range}
use Rattle.jb_link.proofs.relinking.links_from_the_end.Goals as goal

pub put_first-next-requires : goal.put_first-next-requires
put_first-next-requires c =
    parent_at_in_range c.args.base (c.loop-place.place - 1) _ c.args.slots.now c.index-slots-place.result c.args.parents.now (omega arith) c.index-slots-place.is
    (sym c.is_live_slot.ensures ∙ c.if-not-is_live_slot.false) c.requires.parents (omega (arith, c.loop-place.invariant.len))

pub loop-place-preserved : goal.loop-place-preserved
loop-place-preserved c =
    let k : ℕ = c.loop-place.place - 1 in
    let parent : ℕ = slice_index c.args.parents.now k in
    let before : List ℕ = c.loop-place.firsts.items in
    let after : List ℕ = take c.loop-place.firsts.len (c.put_first-next.new.firsts ++ drop (length c.put_first-next.new.firsts) before) in
    let long : length c.put_first-next.new.firsts ≡ c.loop-place.firsts.len = omega (arith, c.put_first-next.auto.firsts, c.as_mut_slice.ensures.len) in
    let written : after ≡ c.put_first-next.new.firsts = take_at c.put_first-next.new.firsts (drop (length c.put_first-next.new.firsts) before) c.loop-place.firsts.len long in
    let within : k < length before = omega (arith, c.loop-place.invariant.len) in
    let Goal : List Links → Type 0 = λ links. IsMetFrom c.args.base k c.args.slots.now after links in
    subst Goal (sym {A = List Links} c.in_ok-push.ensures.items)
    (met_live_slot c.args.base k c.loop-place.place _ _ c.args.slots.now c.index-slots-place.result c.args.parents.now before after
    c.loop-place.links.items c.requires.base (omega arith) (omega arith) c.index-slots-place.is (sym c.is_live_slot.ensures ∙ c.if-not-is_live_slot.false) c.requires.parents
    (c.index-first.ensures ∙ get_or_default_zero before k _ within)
    (c.put_first-next.ensures.next ∙ ap (λ xs. cond (parent == 0) 0 (slice_index xs (parent - c.args.base))) c.as_mut_slice.ensures.value)
    (written ∙ c.put_first-next.ensures.put
    ∙ ap (λ xs. cond (parent == 0) xs (slice_set xs (parent - c.args.base) (c.args.base + k))) c.as_mut_slice.ensures.value)
    c.loop-place.invariant)
