-- How bytes that others wrote are shown.
use Rattle.std.specs.Prelude.{ℕ, nat_lt, ◌||◌, ◌==◌, List, map, if◌then◌else◌}

-- a byte as it is shown: `?` in place of a control character
abbrev pub shown_byte : ℕ → ℕ
shown_byte byte = if nat_lt byte 32 || (byte == 127) then 63 else byte

-- a name, a subject or a part of a text as it is shown
abbrev pub shown : List ℕ → List ℕ
shown bytes = map shown_byte bytes
