use Rattle.std.proofs.Common.{ℕ, ◌+◌, ◌++◌, List, ◌∷◌, drop, map, ap, sym, ◌∙◌, arith, append_assoc, append-nil}
use Rattle.std.proofs.lemmas.List.{at_drop_more, at_drop_all}
use Rattle.jb_state.specs.declared.loaded.LoadedSlot.{LoadedSlot}
use Rattle.jb_state.specs.State.{slot_state}
use Rattle.jb_tool.specs.Listing.{lines_from, slot_line}
use Rattle.jb_tool.proofs.listing.listing.Goals as goal

pub loop-slot-preserved : goal.loop-slot-preserved
loop-slot-preserved c = (
  omega (arith, c.loop-slot.invariant.0),
  λ texts.
      let items = c.as_slice-slot-items.result.now in
      let F : List LoadedSlot → List ℕ = λ l. c.loop-slot.text ++ lines_from c.loop-slot.number (map (slot_state texts) l) in
      let more = at_drop_more F items c.loop-slot.slot-index c.slot-item.result c.loop-slot-test.true in
      let behind = lines_from (c.loop-slot.number + 1) (map (slot_state texts) (drop (c.loop-slot.slot-index + 1) items)) in
      ap (λ (l : List ℕ). l ++ behind) (c.in_ok-append_slot.ensures texts)
      ∙ append_assoc c.loop-slot.text (slot_line c.loop-slot.number (slot_state texts c.slot-item.result)) behind
      ∙ ap (λ (s : LoadedSlot). F (s ∷ drop (c.loop-slot.slot-index + 1) items)) c.slot-item.is ∙ sym more ∙ c.loop-slot.invariant.1 texts,
)

pub returns : goal.returns
returns c = λ texts.
    let items = c.as_slice-slot-items.result.now in
    let F : List LoadedSlot → List ℕ = λ l. c.loop-slot.text ++ lines_from c.loop-slot.number (map (slot_state texts) l) in
    let all = at_drop_all F items c.loop-slot.slot-index c.loop-slot-test.false in
    sym (append-nil c.loop-slot.text) ∙ sym all ∙ c.loop-slot.invariant.1 texts ∙ ap (λ (l : List LoadedSlot). lines_from c.args.loaded.now.base (map (slot_state texts) l)) c.as_slice-slot-items.ensures
