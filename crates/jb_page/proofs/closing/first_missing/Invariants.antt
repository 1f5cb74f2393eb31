use Rattle.std.proofs.Common.{ℕ, ◌<◌}
use Rattle.jb_page.specs.Closing.{HasNumber}
use Rattle.jb_page.proofs.closing.first_missing.Given as goal

abbrev pub invariant-loop-number : goal.invariant-loop-number
invariant-loop-number l = (m : ℕ) → 0 < m → m < l.number → HasNumber l.pagers m
