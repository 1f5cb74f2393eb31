use Rattle.std.proofs.Common.{◌≡◌, ◌+◌, ℕ, Bool, cond, List, ◌∷◌, [], drop, map, ap, arith, refl}
use Rattle.std.proofs.lemmas.List.{at_drop_all, at_drop_more}
use Rattle.std.proofs.lemmas.List.Sums.{sum_by-cons}
use Rattle.std.specs.Prelude.{count_by}
use Rattle.jb_state.specs.State.{SlotState, slot_state}
use Rattle.jb_state.specs.declared.loaded.LoadedSlot.{LoadedSlot}
use Rattle.jb_tool.proofs.LoadUnreadLemmas.{one_at_most}
use Rattle.jb_tool.specs.LoadSummary.{is_seen}
use Rattle.jb_tool.proofs.load_counting.count_seen.Goals as goal

-- one where it is so
abbrev one_of : Bool → ℕ
one_of so = cond so 1 0

pub loop-slot-preserved : goal.loop-slot-preserved
loop-slot-preserved c = (
  omega (arith, c.loop-slot.invariant.0, c.one_if-count.ensures, one_at_most c.is_slot_seen.result),
  λ texts.
      let items = c.args.slots.now in
      let index = c.loop-slot.slot-index in
      let S : SlotState → Bool = is_seen c.args.rules.now c.args.user.now in
      let F : List LoadedSlot → ℕ = λ l. count_by S (map (slot_state texts) l) in
      let more = at_drop_more F items index c.slot-item.result c.loop-slot-test.true in
      let one = sum_by-cons (λ (slot : SlotState). cond (S slot) 1 0) (slot_state texts c.slot-item.result) (map (slot_state texts) (drop (index + 1) items)) in
      let here : F (c.slot-item.result ∷ drop (index + 1) items) ≡ cond (S (slot_state texts c.slot-item.result)) 1 0 + F (drop (index + 1) items) = one in
      let is = ap (λ (s : LoadedSlot). F (s ∷ drop (index + 1) items)) c.slot-item.is in
      let so = ap one_of (c.is_slot_seen.ensures texts) in
      let was = c.loop-slot.invariant.1 texts in
      let counted = c.one_if-count.ensures in
      omega (arith, is, more, here, so, was, counted),
)

pub returns : goal.returns
returns c = λ texts.
    let items = c.args.slots.now in
    let S : SlotState → Bool = is_seen c.args.rules.now c.args.user.now in
    let F : List LoadedSlot → ℕ = λ l. count_by S (map (slot_state texts) l) in
    let all = at_drop_all F items c.loop-slot.slot-index c.loop-slot-test.false in
    let none : F [] ≡ 0 = refl in
    let was = c.loop-slot.invariant.1 texts in
    omega (arith, all, none, was)
