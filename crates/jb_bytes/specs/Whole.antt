-- Whether bytes begin with a whole subfield.
use Rattle.std.specs.Prelude.{◌≡◌, ℕ, List, ◌++◌}
use Rattle.jb_bytes.specs.declared.subfield.Subfield.{Subfield}
use Rattle.jb_bytes.specs.Subfields.{IsSubfield, one_subfield}

-- no beginning of them is one subfield
abbrev pub HasNoWhole : List ℕ → Type 0
HasNoWhole bytes = (field : Subfield) (rest : List ℕ) → IsSubfield field → bytes ≡ one_subfield field ++ rest → ⊥

-- this subfield stands first in the bytes, and these bytes behind it
pub record BeginsWithField (bytes : List ℕ) (field : Subfield) (behind : List ℕ) : Type 0 where
  pub fits : IsSubfield field
  pub spelled : bytes ≡ one_subfield field ++ behind
