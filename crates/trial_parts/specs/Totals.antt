-- What a number behind a turn stands for.
use Rattle.std.specs.Prelude.{ℕ, List}
use Rattle.trial_parts.specs.declared.adding.Total.{Total}
use Rattle.trial_parts.specs.Sums.{sums_up}

-- the number is the sum of what was noted
abbrev pub stands_for_total : Total → ℕ → List (ℕ × ℕ) → Type 0
stands_for_total total first log = sums_up total.sum first log
