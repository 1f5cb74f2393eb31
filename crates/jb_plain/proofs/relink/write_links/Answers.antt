use Rattle.std.proofs.Common.{◌≡◌, List, length, map, ap, ◌∙◌, arith}
use Rattle.std.specs.Prelude.{Option}
use Rattle.jb_state.specs.Tight.{owned_slot}
use Rattle.jb_state.specs.declared.area.Slot.{Slot}
use Rattle.jb_state.specs.declared.message.Head.{Head}
use Rattle.jb_plain.specs.Seen.{seen_state}
use Rattle.jb_plain.specs.Walk.{heads_from, linkables_from, with_heads}
use Rattle.jb_plain.proofs.Lists.{length-heads_from, with_heads-relinked}
use Rattle.jb_plain.proofs.SeenLaws.{with_slots}
use Rattle.jb_plain.proofs.relink.write_links.Goals as goal

pub put_heads-requires : goal.put_heads-requires
put_heads-requires c =
    let slots : List Slot = c.args.state.now.slots.items in
    let lent : c.deref.result.now ≡ slots = c.deref.ensures.value in
    let heads : length c.deref-2.result.now ≡ length c.deref.result.now =
    ap length (c.deref-2.ensures.value ∙ c.in_ok-heads.ensures) ∙ length-heads_from (linkables_from c.args.state.now.base c.deref.result.now) c.args.state.now.base c.deref.result.now in
    omega (arith, heads, c.deref.ensures.len)

pub returns-clause-value : goal.returns-clause-value
returns-clause-value c =
    let base = c.args.state.now.base in
    let slots : List Slot = c.args.state.now.slots.items in
    let heads : c.deref-2.result.now ≡ heads_from (linkables_from base slots) base slots =
    c.deref-2.ensures.value ∙ c.in_ok-heads.ensures
    ∙ ap (λ (l : List Slot). heads_from (linkables_from base l) base l) c.deref.ensures.value in
    ap (with_slots (seen_state c.args.state.now))
    (ap (map owned_slot) c.put_heads.ensures.value
    ∙ ap (λ (h : List (Option Head)). map owned_slot (with_heads h slots)) heads
    ∙ with_heads-relinked (linkables_from base slots) base slots)
