use Rattle.std.proofs.Common.{◌≡◌, ℕ, suc, ◌+◌, List, ◌∷◌, drop, map, ap, sym, ◌∙◌, subst, arith, refl}
use Rattle.std.specs.Prelude.{if◌then◌else◌}
use Rattle.std.proofs.lemmas.List.{at_drop_more, at_drop_all}
use Rattle.jb_state.specs.Live.{Numbered, live_from}
use Rattle.jb_state.specs.State.{slot_state}
use Rattle.jb_state.specs.declared.loaded.LoadedSlot.{LoadedSlot}
use Rattle.jb_tool.proofs.CountLemmas.{one_at_most, one_more}
use Rattle.jb_tool.specs.Check.{HaveReadableIds}
use Rattle.jb_tool.proofs.counting.count_ids.Goals as goal

pub loop-slot-preserved : goal.loop-slot-preserved
loop-slot-preserved c = (
  omega (arith, c.loop-slot.invariant.0, c.one_if.ensures, one_at_most c.in_ok-has_id.field-0),
  λ texts base more has.
      let items = c.args.slots.now in
      let index = c.loop-slot.slot-index in
      let so = c.in_ok-has_id.field-0 in
      let behind = map (slot_state texts) (drop (index + 1) items) in
      let step : base + (index + 1) ≡ base + index + 1 = omega arith in
      let counted = c.in_ok-has_id.ensures texts (base + index) behind more (subst (λ (n : ℕ). HaveReadableIds (live_from n behind) more) step has) in
      let G : List LoadedSlot → List Numbered = λ l. live_from (base + index) (map (slot_state texts) l) in
      let here = ap (λ (s : LoadedSlot). G (s ∷ drop (index + 1) items)) c.slot-item.is ∙ sym (at_drop_more G items index c.slot-item.result c.loop-slot-test.true) in
      let whole = c.loop-slot.invariant.1 texts base (if so then suc more else more) (subst (λ (l : List Numbered). HaveReadableIds l (if so then suc more else more)) here counted) in
      subst (HaveReadableIds (live_from base (map (slot_state texts) items)))
      (one_more so c.loop-slot.count more ∙ ap (λ (n : ℕ). c.loop-slot.count + n + more) (sym c.one_if.ensures)) whole,
)

pub returns : goal.returns
returns c = λ texts base.
    let items = c.args.slots.now in
    let index = c.loop-slot.slot-index in
    let G : List LoadedSlot → List Numbered = λ l. live_from (base + index) (map (slot_state texts) l) in
    let all = at_drop_all G items index c.loop-slot-test.false in
    let none = subst (λ (l : List Numbered). HaveReadableIds l 0) (sym all) refl in
    let same : c.loop-slot.count + 0 ≡ c.loop-slot.count = omega arith in
    subst (HaveReadableIds (live_from base (map (slot_state texts) items))) same (c.loop-slot.invariant.1 texts base 0 none)
