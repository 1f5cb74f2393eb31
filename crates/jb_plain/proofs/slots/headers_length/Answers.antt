use Rattle.std.proofs.Common.{◌≡◌, drop, map, arith}
use Rattle.std.proofs.lemmas.List.{at_drop_all}
use Rattle.jb_state.specs.Tight.{owned_slot, headers_together}
use Rattle.jb_plain.proofs.slots.headers_length.Goals as goal

pub returns : goal.returns
returns c =
    let left : headers_together (map owned_slot (drop c.loop-slot.slot-index c.args.slots.now)) ≡ 0 =
    at_drop_all (λ slots. headers_together (map owned_slot slots)) c.args.slots.now c.loop-slot.slot-index (omega arith) in
    let whole = c.loop-slot.invariant.1 in
    let low = c.loop-slot.invariant.0 in
    omega arith
