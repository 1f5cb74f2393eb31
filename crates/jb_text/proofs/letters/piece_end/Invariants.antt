use Rattle.std.proofs.Common.{◌≡◌, ℕ, ◌<◌, false, get_or}
use Rattle.jb_text.specs.Letter.{ends_line}
use Rattle.jb_text.proofs.letters.piece_end.Given as goal

abbrev pub invariant-loop-place : goal.invariant-loop-place
invariant-loop-place l = (k : ℕ) → k < l.place → ends_line (get_or l.message k 0) ≡ false
