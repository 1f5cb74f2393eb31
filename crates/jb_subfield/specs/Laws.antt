-- What makes the spelling of subfields one that can be read back.
use Rattle.std.specs.Prelude.{◌≡◌, ℕ, List, ◌++◌}
use Rattle.jb_bytes.specs.declared.subfield.Subfield.{Subfield}
use Rattle.jb_bytes.specs.Subfields.{IsSubfield, IsSubfieldList, one_subfield}

-- no spelling of one subfield is a proper prefix of another's: bytes begin with one at most, and the rest is settled
abbrev pub ArePrefixFree : Type 0
ArePrefixFree = (one other : Subfield) (rest more : List ℕ) → IsSubfield one → IsSubfield other
    → one_subfield one ++ rest ≡ one_subfield other ++ more → (one ≡ other) × (rest ≡ more)

-- bytes have at most one list
abbrev pub HasOneListAtMost : Type 0
HasOneListAtMost = (bytes : List ℕ) (one other : List Subfield)
    → IsSubfieldList one bytes → IsSubfieldList other bytes → one ≡ other
