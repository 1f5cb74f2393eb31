use Rattle.std.proofs.Common.{◌<◌, List, length, set, get_or, ap, ◌∙◌, arith}
use Rattle.std.specs.Prelude.{None}
use Rattle.jb_state.specs.declared.area.Slot.{Slot}
use Rattle.jb_state.specs.declared.area.Slot.TheVariants.{Empty}
use Rattle.jb_plain.specs.Walk.{with_heads, with_some_head}
use Rattle.jb_plain.proofs.Lists.{get_or-with_heads, length-with_heads, mixed_end, mixed_next}
use Rattle.jb_plain.proofs.relink.put_heads.Goals as goal

pub loop-place-preserved : goal.loop-place-preserved
loop-place-preserved c =
    let old : List Slot = c.args.slots.now.items in
    let heads = c.args.heads.now in
    let p = c.loop-place.place in
    let now = c.loop-place.invariant.1 in
    let within : p < length old = omega (arith, c.len-place-end.ensures, c.args.slots.now.ok) in
    let low : p < length heads = omega (arith, c.len-place-end.ensures, c.requires) in (
      c.set_some_head.ensures.kept ∙ c.loop-place.invariant.0,
      c.set_some_head.ensures.value Empty
          ∙ ap (λ (l : List Slot). set l p (with_some_head (get_or heads p None) (get_or l p Empty))) now
          ∙ mixed_next (with_heads heads old) old p Empty (with_some_head (get_or heads p None)) (length-with_heads heads old) within
          (get_or-with_heads heads old p Empty None low within),
    )

pub returns-clause-value : goal.returns-clause-value
returns-clause-value c =
    let old : List Slot = c.args.slots.now.items in
    c.loop-place.invariant.1
    ∙ mixed_end (with_heads c.args.heads.now old) old c.loop-place.place (length-with_heads c.args.heads.now old) (omega (arith, c.len-place-end.ensures, c.args.slots.now.ok))
