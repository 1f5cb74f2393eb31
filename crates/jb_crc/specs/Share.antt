-- What a single byte adds to the CRC.
use Rattle.std.specs.Prelude.{ℕ, ◌+◌, ◌*◌, bit_xor}
use Rattle.std.specs.Char.{to_ascii_lowercase}
use Rattle.jb_bytes.specs.Crc.{crc_bits}

-- a byte combined into a byte of the sum before, after its own eight bits and those of the bytes behind it, so many
unfoldable pub share_of : ℕ → ℕ → ℕ → ℕ
share_of further low byte = crc_bits (8 * (further + 1)) (bit_xor low (to_ascii_lowercase byte))
