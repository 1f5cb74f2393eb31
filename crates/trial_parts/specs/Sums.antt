-- A number as the sum of what was added to it.
use Rattle.std.specs.Prelude.{◌≡◌, ℕ, ◌+◌, List, sum_by}

-- the number is the first one with all that was added
abbrev pub sums_up : ℕ → ℕ → List (ℕ × ℕ) → Type 0
sums_up n first log = n ≡ first + sum_by (λ e. e.1) log
