use Rattle.std.proofs.Common.{◌≡◌, ◌∙◌, ◌+◌, List, map, length, ap, arith}
use Rattle.std.proofs.lemmas.List.{length-map}
use Rattle.jb_state.specs.Live.{killed_count, live_count}
use Rattle.jb_state.specs.State.{next_number, slot_state, state_of}
use Rattle.jb_state.specs.declared.loaded.LoadedSlot.{LoadedSlot}
use Rattle.jb_tool.proofs.FigureLemmas.{eight_parts, lines}
use Rattle.jb_tool.specs.Check.{empty_count}
use Rattle.jb_tool.proofs.checking.figures.Goals as goal

pub returns : goal.returns
returns c = λ texts.
    let loaded = c.args.loaded.now in
    let slots = c.as_slice-slots.ensures in
    let base = c.from-base.ensures in
    let many = length-map loaded.slots (slot_state texts) in
    let size = ap (λ (l : List LoadedSlot). length l) slots in
    let next : c.from-base.result + length c.as_slice-slots.result.now ≡ next_number (state_of texts loaded) = omega (arith, base, many, size) in
    let live = c.count_live.ensures texts ∙ ap (λ (l : List LoadedSlot). live_count (map (slot_state texts) l)) slots in
    let killed = c.count_killed.ensures texts ∙ ap (λ (l : List LoadedSlot). killed_count (map (slot_state texts) l)) slots in
    let empty = c.count_empty.ensures texts ∙ ap (λ (l : List LoadedSlot). empty_count (map (slot_state texts) l)) slots in
    eight_parts _ _ _ _ _ _ _ _ _ _ _ _ _ _ _ _ _ c.new-text.ensures c.in_ok-append_count.ensures c.in_ok-append_count-2.ensures c.in_ok-append_count-3.ensures
    c.in_ok-append_count-4.ensures c.in_ok-append_count-5.ensures c.in_ok-append_count-6.ensures c.in_ok-append_linked.ensures c.in_ok-append_recovered.ensures
    ∙ (λ i. lines (base i) (next i) (live i) (killed i) (empty i) c.args.msgids c.args.linked c.args.found)
