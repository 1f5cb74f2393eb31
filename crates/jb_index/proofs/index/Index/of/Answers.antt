use Rattle.std.proofs.Common.{◌≡◌, ◌≤◌, ◌∙◌, ◌+◌, sym, ap, subst, length, arith, List}
use Rattle.std.proofs.lemmas.List.{length-map}
use Rattle.jb_state.specs.State.{slot_state}
use Rattle.jb_state.specs.declared.loaded.LoadedSlot.{LoadedSlot}
use Rattle.jb_state.specs.LiveSlots.{linkables_from}
use Rattle.jb_index.specs.Cut.{NumbersRise}
use Rattle.jb_index.proofs.MakingLemmas.{listed_count, listed_from, listed_of_state, listed_rises, same_index}
use Rattle.jb_index.proofs.index.Index.of.Goals as goal

pub overflow_sub-rules : goal.overflow_sub-rules
overflow_sub-rules c =
    let slots : length c.as_slice-slots.result.now ≡ length c.args.loaded.now.slots = ap length c.as_slice-slots.ensures in
    let count : length c.in_ok-summaries.summaries.items ≡ length (listed_from (linkables_from c.args.loaded.now.base c.as_slice-slots.result.now) c.args.loaded.now.base c.as_slice-slots.result.now)
    = ap length c.in_ok-summaries.ensures in
    omega (arith, listed_count (linkables_from c.args.loaded.now.base c.as_slice-slots.result.now) c.args.loaded.now.base c.as_slice-slots.result.now, c.len.ensures)

pub invariant_of-result : goal.invariant_of-result
invariant_of-result c =
    let slots : length c.as_slice-slots.result.now ≡ length c.args.loaded.now.slots = ap length c.as_slice-slots.ensures in
    let is : c.reserve.new.self.items ≡ listed_from (linkables_from c.args.loaded.now.base c.as_slice-slots.result.now) c.args.loaded.now.base c.as_slice-slots.result.now
    = c.in_ok-reserve.ensures.items ∙ c.in_ok-summaries.ensures in
    let count : length c.reserve.new.self.items ≤ length c.args.loaded.now.slots
    = omega (arith, listed_count (linkables_from c.args.loaded.now.base c.as_slice-slots.result.now) c.args.loaded.now.base c.as_slice-slots.result.now, ap length is) in
    let same_rules = ap (λ rules. rules.slots) c.in_ok-rules.ensures in
    let kept : length c.reserve.new.self.items ≡ length c.in_ok-summaries.summaries.items = ap length c.in_ok-reserve.ensures.items in
    record {
      rising = subst NumbersRise (sym is) (listed_rises (linkables_from c.args.loaded.now.base c.as_slice-slots.result.now) c.args.loaded.now.base c.as_slice-slots.result.now);
      counted = omega (arith, c.requires.sound.numbers);
      few = omega (arith, c.requires.sound.few_slots);
      summaries_room = omega (arith, c.in_ok-reserve.ensures.ok, c.len.ensures);
      marks_room = c.in_ok-marks.ensures.room;
    }

pub returns : goal.returns
returns c = λ texts.
    let slots : c.as_slice-slots.result.now ≡ c.args.loaded.now.slots = c.as_slice-slots.ensures in
    same_index _ _ _ _ c.args.loaded.now.base _ _ _ _
    (c.in_ok-reserve.ensures.items ∙ c.in_ok-summaries.ensures
    ∙ ap (λ (l : List LoadedSlot). listed_from (linkables_from c.args.loaded.now.base l) c.args.loaded.now.base l) slots
    ∙ listed_of_state texts c.args.loaded.now)
    (c.in_ok-marks.ensures.marks ∙ c.as_slice.ensures)
    (ap (λ n. c.args.loaded.now.base + n) (ap length slots ∙ sym (length-map c.args.loaded.now.slots (slot_state texts))))
    c.in_ok-rules.ensures
