-- What bytes of Telnet leave open at their end.
use Rattle.std.specs.Prelude.{ℕ, Bool, ◌==◌, ◌&&◌, not, List, [], ◌∷◌, if◌then◌else◌}

-- an IAC still waits for its second byte behind these bytes, where one waited before them or not: it begins a command or a doubled 255
abbrev pub waits_behind : Bool → List ℕ → Bool
waits_behind before [] = before
waits_behind before (byte ∷ bytes) = waits_behind (byte == 255 && not before) bytes

-- these bytes behind an IAC, where the mark of a Synch begins them
abbrev pub with_iac : List ℕ → List ℕ
with_iac [] = []
with_iac (byte ∷ bytes) = if byte == 242 then 255 ∷ 242 ∷ bytes else byte ∷ bytes
