use Rattle.std.proofs.Common.{◌≡◌, drop}
use Rattle.jb_state.specs.Marks.{mark_of}
use Rattle.jb_plain.proofs.mark.first_mark.Given as goal

abbrev pub invariant-loop-mark : goal.invariant-loop-mark
invariant-loop-mark l = mark_of l.user_crc l.user_id (drop l.mark-index l.marks) ≡ mark_of l.user_crc l.user_id l.marks
