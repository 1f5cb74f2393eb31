-- The subfields that stand in bytes, read from the front.
use Rattle.std.specs.Prelude.{◌≡◌, ℕ, zero, suc, ◌+◌, List, [], ◌∷◌, length, take, drop}
use Rattle.jb_bytes.specs.Number.{number_at}
use Rattle.jb_bytes.specs.Subfields.{IsSubfieldList}
use Rattle.jb_bytes.specs.declared.subfield.Subfield.{Subfield}

-- the subfield that a head and the data behind it tell
abbrev pub field_at_front : List ℕ → Subfield
field_at_front bytes = record { id = number_at 2 0 bytes; hi = number_at 2 2 bytes; bytes = take (number_at 4 4 bytes) (drop 8 bytes) }

-- what stands behind it
abbrev pub behind_front : List ℕ → List ℕ
behind_front bytes = drop (number_at 4 4 bytes) (drop 8 bytes)

-- the subfields with which bytes begin, so many at most
abbrev pub fields_up_to : ℕ → List ℕ → List Subfield
fields_up_to zero bytes = []
fields_up_to (suc n) [] = []
fields_up_to (suc n) (byte ∷ bytes) = field_at_front (byte ∷ bytes) ∷ fields_up_to n (behind_front (byte ∷ bytes))

-- the subfields that stand in bytes
abbrev pub fields_in : List ℕ → List Subfield
fields_in bytes = fields_up_to (length bytes) bytes
