-- Records as rows of numbers, each of a stated width, the lowest byte first (JAM, "Data types").
use Rattle.std.specs.Prelude.{ℕ, List, [], ◌∷◌, ◌++◌}
use Rattle.jb_bytes.specs.Number.{number_bytes}

-- a number and how many bytes it takes
pub record Field : Type 0 where
  pub width : ℕ
  pub value : ℕ

-- a number of two bytes
abbrev pub ushort : ℕ → Field
ushort n = record { width = 2; value = n }

-- a number of four bytes
abbrev pub ulong : ℕ → Field
ulong n = record { width = 4; value = n }

-- the bytes of numbers, one behind another
abbrev pub fields_bytes : List Field → List ℕ
fields_bytes [] = []
fields_bytes (field ∷ fields) = number_bytes field.width field.value ++ fields_bytes fields

-- `JAM` and a zero byte, with which each header begins
abbrev pub signature : List ℕ
signature = 0x4A ∷ 0x41 ∷ 0x4D ∷ 0x00 ∷ []
