-- The first bytes of a byte string.
use Rattle.std.specs.Prelude.{ℕ, List, ◌++◌, length, replicate, take}
use Rattle.jb_state.specs.declared.short.Short.{Short}

-- the first n bytes, with zeros after the end, and the whole length
abbrev pub short_of : (n : ℕ) → List ℕ → Short n
short_of n bytes = record { first = take n (bytes ++ replicate n 0); length = length bytes }

-- the bytes that are kept
abbrev pub kept_of : (n : ℕ) → Short n → List ℕ
kept_of n short = take short.length short.first
