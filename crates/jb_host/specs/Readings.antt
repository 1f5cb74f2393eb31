-- The readings of a clock.
use Rattle.std.specs.Prelude.{ℕ, List, [], ◌∷◌}

-- the reading that comes next: the first of those that a clock will give; one that has none shows 0
abbrev pub reading_of : List ℕ → ℕ
reading_of [] = 0
reading_of (reading ∷ rest) = reading

-- the readings that it will give once that one was: the others, but the last stays
abbrev pub readings_after : List ℕ → List ℕ
readings_after [] = []
readings_after (last ∷ []) = last ∷ []
readings_after (reading ∷ next ∷ rest) = next ∷ rest
