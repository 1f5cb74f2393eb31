use Rattle.std.proofs.Common.{◌≡◌, ◌-◌, List, map, set, get_or, ap, ◌∙◌}
use Rattle.std.proofs.lemmas.List.{map-set}
use Rattle.jb_state.specs.Tight.{owned_slot}
use Rattle.jb_state.specs.declared.area.Slot.{Slot}
use Rattle.jb_state.specs.declared.area.Slot.TheVariants.{Empty, Live}
use Rattle.jb_plain.specs.Seen.{seen_state}
use Rattle.jb_plain.specs.Walk.{slot_with_head}
use Rattle.jb_plain.proofs.SeenLaws.{got_at, with_slots}
use Rattle.jb_plain.proofs.held.PlainState.put_head.Goals as goal

pub returns : goal.returns
returns c message at =
    let items : List Slot = c.args.self.now.slots.items in
    let place = c.args.number - c.args.self.now.base in
    let slot : get_or items place Empty ≡ Live message = got_at items place (Live message) Empty at.there in
    ap (with_slots (seen_state c.args.self.now))
    (ap (map owned_slot) (c.set_head.ensures.value Empty)
    ∙ map-set owned_slot items place (slot_with_head c.args.head (get_or items place Empty))
    ∙ ap (λ (s : Slot). set (map owned_slot items) place (owned_slot (slot_with_head c.args.head s))) slot)
