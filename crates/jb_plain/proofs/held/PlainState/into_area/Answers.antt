use Rattle.std.proofs.Common.{List, map, ap, sym, ◌∙◌}
use Rattle.jb_model.specs.Run.{plain_slot}
use Rattle.jb_state.specs.Tight.{owned_slot}
use Rattle.jb_state.specs.declared.area.Area.{Area}
use Rattle.jb_state.specs.declared.area.Slot.{Slot}
use Rattle.jb_state.specs.declared.mark.Mark.{Mark}
use Rattle.jb_plain.proofs.Lists.{plain_owned}
use Rattle.jb_plain.proofs.held.PlainState.into_area.Goals as goal

pub returns : goal.returns
returns c =
    let base = c.args.self.base in
    let build : List Slot → List Mark → Area = λ slots marks. record { base = base; slots = slots; marks = marks } in
    ap (λ (slots : List Slot). build slots c.from-2.result) (c.from.ensures ∙ sym (plain_owned c.args.self.slots.items))
    ∙ ap (build (map plain_slot (map owned_slot c.args.self.slots.items))) c.from-2.ensures
