-- What makes the spelling of records one that can be read back.
use Rattle.std.specs.Prelude.{◌≡◌, ℕ, List, ◌++◌}

-- of the records of one kind, none has bytes that are a proper prefix of another's: bytes begin with one at most, and the rest is settled
abbrev pub IsPrefixFree : {R : Type 0} → (R → Type 0) → (R → List ℕ) → Type 0
IsPrefixFree {R} fits spelled = (one other : R) (rest more : List ℕ) → fits one → fits other
    → spelled one ++ rest ≡ spelled other ++ more → (one ≡ other) × (rest ≡ more)
