use Rattle.std.proofs.Common.{◌≡◌, ◌+◌, drop}
use Rattle.jb_state.specs.Links.{is_answered_by}
use Rattle.jb_plain.specs.Walk.{found_in}
use Rattle.jb_plain.proofs.links.least_with_id.Given as goal

abbrev pub invariant-loop-slot : goal.invariant-loop-slot
invariant-loop-slot l = (l.one ≡ l.base + l.slot-index) × (found_in (is_answered_by l.number l.id) l.one (drop l.slot-index l.slots) ≡ found_in (is_answered_by l.number l.id) l.base l.slots)
