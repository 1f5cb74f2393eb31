-- Names, in which `A` to `Z` are as `a` to `z`.
use Rattle.std.specs.Prelude.{◌≡◌, ℕ, Bool, List, map, bytes_eq}
use Rattle.std.specs.Char.{to_ascii_lowercase}

-- the two are one name
abbrev pub SameName : List ℕ → List ℕ → Type 0
SameName one other = map to_ascii_lowercase one ≡ map to_ascii_lowercase other

-- whether the two are one name
abbrev pub same_name : List ℕ → List ℕ → Bool
same_name one other = bytes_eq (map to_ascii_lowercase one) (map to_ascii_lowercase other)
