use Rattle.std.proofs.Common.{◌≡◌, ◌+◌, drop}
use Rattle.jb_state.specs.Links.{is_kept_by}
use Rattle.jb_plain.specs.Walk.{found_in}
use Rattle.jb_plain.proofs.links.kept_if_live.Given as goal

abbrev pub invariant-loop-slot : goal.invariant-loop-slot
invariant-loop-slot l = (l.one ≡ l.base + l.slot-index) × (found_in (is_kept_by l.number l.kept) l.one (drop l.slot-index l.slots) ≡ found_in (is_kept_by l.number l.kept) l.base l.slots)
