use Rattle.std.proofs.Common.{◌≡◌, ◌+◌, drop}
use Rattle.jb_state.specs.Links.{is_reply_to}
use Rattle.jb_plain.specs.Walk.{last_from, linkables_from}
use Rattle.jb_plain.proofs.links.last_reply.Given as goal

abbrev pub invariant-loop-slot : goal.invariant-loop-slot
invariant-loop-slot l =
    (l.one ≡ l.base + l.slot-index)
    × (last_from (is_reply_to (linkables_from l.base l.slots) l.number) l.last l.one (drop l.slot-index l.slots) ≡ last_from (is_reply_to (linkables_from l.base l.slots) l.number) 0 l.base l.slots)
