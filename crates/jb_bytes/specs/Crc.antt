-- The CRC of JAM: CRC-32, reflected, begun with all bits set and not complemented, over bytes in lower case (JAM, "CRC").
use Rattle.std.specs.Prelude.{ℕ, zero, suc, ◌/◌, ◌%◌, ◌==◌, if◌then◌else◌, bit_xor, List, [], ◌∷◌}
use Rattle.std.specs.Char.{to_ascii_lowercase}

-- one bit: halved, and where a 1 fell out, combined with the reflected polynomial
abbrev pub crc_bit : ℕ → ℕ
crc_bit crc = if crc % 2 == 1 then bit_xor (crc / 2) 0xEDB88320 else crc / 2

-- so many bits, one after another
abbrev pub crc_bits : ℕ → ℕ → ℕ
crc_bits zero crc = crc
crc_bits (suc n) crc = crc_bits n (crc_bit crc)

-- one byte: combined into the low eight bits, then eight bits
abbrev pub crc_byte : ℕ → ℕ → ℕ
crc_byte crc byte = crc_bits 8 (bit_xor crc (to_ascii_lowercase byte))

-- the bytes in order, from a sum so far
abbrev pub crc_from : ℕ → List ℕ → ℕ
crc_from crc [] = crc
crc_from crc (byte ∷ bytes) = crc_from (crc_byte crc byte) bytes

-- the CRC of these bytes
abbrev pub jam_crc_of : List ℕ → ℕ
jam_crc_of bytes = crc_from 0xFFFFFFFF bytes
