-- Numbers in files: so many bytes, the lowest first (JAM, "Data types").
use Rattle.std.specs.Prelude.{ℕ, zero, suc, ◌+◌, ◌*◌, ◌/◌, ◌%◌, List, [], ◌∷◌, ◌++◌, take, drop}

-- the number of which these are the bytes, the lowest first
abbrev pub little_endian : List ℕ → ℕ
little_endian [] = 0
little_endian (byte ∷ bytes) = byte + 256 * little_endian bytes

-- the bytes of a number, so many, the lowest first
abbrev pub number_bytes : ℕ → ℕ → List ℕ
number_bytes zero n = []
number_bytes (suc width) n = n % 256 ∷ number_bytes width (n / 256)

-- the number that stands at a place, so many bytes wide
abbrev pub number_at : ℕ → ℕ → List ℕ → ℕ
number_at width at bytes = little_endian (take width (drop at bytes))

-- the same bytes, but for a number that is written over some at a place
abbrev pub with_number : ℕ → ℕ → ℕ → List ℕ → List ℕ
with_number width at n bytes = take at bytes ++ number_bytes width n ++ drop (at + width) bytes
