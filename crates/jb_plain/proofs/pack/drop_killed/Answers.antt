use Rattle.std.proofs.Common.{◌+◌, List, map, ap, sym, ◌∙◌}
use Rattle.std.proofs.lemmas.List.{drop-map}
use Rattle.jb_state.specs.PackedState.{emptied}
use Rattle.jb_state.specs.State.{AreaState, SlotState}
use Rattle.jb_state.specs.Tight.{owned_slot}
use Rattle.jb_state.specs.declared.area.Slot.{Slot}
use Rattle.jb_plain.specs.Seen.{seen_state}
use Rattle.jb_plain.proofs.Lists.{emptied-owned}
use Rattle.jb_plain.proofs.pack.drop_killed.Goals as goal

pub returns : goal.returns
returns c =
    let state : AreaState = seen_state c.args.state.now in
    let build : List SlotState → AreaState = λ slots. record state { base = state.base + c.args.front; slots = slots } in
    ap build
    (ap (map owned_slot) c.empty_killed.ensures.value
    ∙ emptied-owned c.cut_front.new.slots.items
    ∙ ap (λ (l : List Slot). map emptied (map owned_slot l)) c.cut_front.ensures.value
    ∙ ap (map emptied) (sym (drop-map owned_slot c.args.front c.args.state.now.slots.items)))
