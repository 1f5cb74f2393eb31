use Rattle.std.proofs.Common.{◌≡◌, ◌+◌, drop}
use Rattle.jb_state.specs.Links.{is_next_reply}
use Rattle.jb_plain.specs.Walk.{found_in, linkables_from}
use Rattle.jb_plain.proofs.links.next_reply.Given as goal

abbrev pub invariant-loop-slot : goal.invariant-loop-slot
invariant-loop-slot l = (l.one ≡ l.base + l.slot-index) × (found_in (is_next_reply (linkables_from l.base l.slots) l.number l.parent) l.one (drop l.slot-index l.slots) ≡ found_in (is_next_reply (linkables_from l.base l.slots) l.number l.parent) l.base l.slots)
