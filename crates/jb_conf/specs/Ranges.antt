-- The ranges of the values of a settings file.
use Rattle.std.specs.Prelude.{ℕ, ℤ, Bool, not, ◌&&◌, ◌==◌, nat_le, int_le, List, length}
use Rattle.std.specs.List.{list_all}

-- so many elements, from the least to the most
abbrev pub is_sized : {X : Type 0} → ℕ → ℕ → List X → Bool
is_sized least most items = nat_le least (length items) && nat_le (length items) most

-- a byte that is printed, from the space to the tilde
abbrev pub is_printed : ℕ → Bool
is_printed byte = nat_le 32 byte && nat_le byte 126

-- a printable text of one byte or more
abbrev pub is_printable : ℕ → List ℕ → Bool
is_printable most text = is_sized 1 most text && list_all is_printed text

-- a byte of an address: printed, and neither a space nor a quote
abbrev pub is_address_byte : ℕ → Bool
is_address_byte byte = (nat_le 33 byte && nat_le byte 126) && not (byte == 34)

-- an address of one byte or more
abbrev pub is_address : ℕ → List ℕ → Bool
is_address most text = is_sized 1 most text && list_all is_address_byte text

-- a whole number from the least to the most
abbrev pub is_between : ℤ → ℤ → ℤ → Bool
is_between least most value = int_le least value && int_le value most
