use Rattle.std.proofs.Common.{◌≡◌, ◌<◌, ℕ, get_or}
use Rattle.jb_pack.specs.Shadow.{not_copied}
use Rattle.jb_pack.proofs.copied.forget.Given as goal

abbrev pub invariant-loop-copied : goal.invariant-loop-copied
invariant-loop-copied l = (k : ℕ) → k < l.copied-index → get_or l.copies k not_copied ≡ not_copied
