-- Numbers and names in columns.
use Rattle.std.specs.Prelude.{ℕ, ◌-◌, List, ◌++◌, length, replicate, decimal}

-- a number right in so many places, and longer where it needs more
abbrev pub right_in : ℕ → ℕ → List ℕ
right_in width number = replicate (width - length (decimal number)) 32 ++ decimal number

-- bytes left in so many places, and longer where they need more
abbrev pub left_in : ℕ → List ℕ → List ℕ
left_in width bytes = bytes ++ replicate (width - length bytes) 32
