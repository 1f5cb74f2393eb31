use Rattle.std.proofs.Common.{◌<◌, List, length, map, set, get_or, ap, ◌∙◌, arith}
use Rattle.std.proofs.lemmas.List.{get_or-map, length-map}
use Rattle.jb_state.specs.declared.area.Slot.{Slot}
use Rattle.jb_state.specs.declared.area.Slot.TheVariants.{Empty}
use Rattle.jb_plain.specs.Walk.{without_killed}
use Rattle.jb_plain.proofs.Lists.{mixed_next}
use Rattle.jb_plain.proofs.slots.empty_killed.Goals as goal

pub loop-place-preserved : goal.loop-place-preserved
loop-place-preserved c =
    let old : List Slot = c.args.slots.now.items in
    let p = c.loop-place.place in
    let size = c.loop-place.invariant.0 in
    let now = c.loop-place.invariant.1 in
    let within : p < length old = omega (arith, c.len-place-end.ensures, c.args.slots.now.ok) in (
      c.empty_one.ensures.kept ∙ size,
      c.empty_one.ensures.value Empty
          ∙ ap (λ (l : List Slot). set l p (without_killed (get_or l p Empty))) now
          ∙ mixed_next (map without_killed old) old p Empty without_killed (length-map old without_killed) within (get_or-map without_killed old p Empty Empty within),
    )
