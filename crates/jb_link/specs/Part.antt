-- A part of a list.
use Rattle.std.specs.Prelude.{ℕ, ◌-◌, List, drop, take}

-- those from one place on and before another
abbrev pub part : {X : Type 0} → ℕ → ℕ → List X → List X
part from to xs = take (to - from) (drop from xs)
