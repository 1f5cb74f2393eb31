use Rattle.std.proofs.Common.{◌-◌, map, ap, ◌∙◌}
use Rattle.std.proofs.lemmas.List.{map-set}
use Rattle.jb_state.specs.Tight.{owned_slot}
use Rattle.jb_plain.specs.Seen.{seen_state}
use Rattle.jb_plain.proofs.SeenLaws.{with_slots}
use Rattle.jb_plain.proofs.held.PlainState.put_slot.Goals as goal

pub returns : goal.returns
returns c =
    ap (with_slots (seen_state c.args.self.now))
    (ap (map owned_slot) c.set_slot.ensures.value ∙ map-set owned_slot c.args.self.now.slots.items (c.args.number - c.args.self.now.base) c.args.slot)
