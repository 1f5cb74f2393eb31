use Rattle.std.proofs.Common.{◌≡◌, ◌+◌, ◌*◌, ◌++◌, replicate}
use Rattle.jb_text.proofs.writing.append_spaces.Given as goal

abbrev pub invariant-loop-piece : goal.invariant-loop-piece
invariant-loop-piece l = (l.text ≡ l.initial.text ++ replicate (32 * l._piece) 32) × (l.left + 32 * l._piece ≡ l.count)
