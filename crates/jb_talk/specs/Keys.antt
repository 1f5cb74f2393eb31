-- What an event is beside an option: a key that is pressed, or a question; and how an echo is sent.
use Rattle.std.specs.Prelude.{ℕ, List, [], ◌∷◌, codes, Option, Some, None, flat_map, replicate}
use Rattle.jb_telnet.specs.declared.event.Event.{Event}
use Rattle.jb_telnet.specs.declared.event.Event.TheVariants as event
use Rattle.jb_telnet.specs.Units.{doubled}
use Rattle.jb_line.specs.declared.key.Key.{Key}
use Rattle.jb_line.specs.declared.key.Key.TheVariants.{Byte, EraseChar, EraseLine}
use Rattle.jb_line.specs.declared.key.Echo.{Echo}
use Rattle.jb_line.specs.declared.key.Echo.TheVariants.{Nothing, One, Rub, NewLine}
use Rattle.jb_text.specs.Letter.{line}

-- the key that an event is
abbrev pub key_of : Event → Option Key
key_of (event.Byte byte) = Some (Byte byte)
key_of event.EraseChar = Some EraseChar
key_of event.EraseLine = Some EraseLine
key_of _ = None

-- the caller who asks whether the board is there is told so
abbrev pub yes_of : Event → List ℕ
yes_of event.AreYouThere = line (codes "[Yes]")
yes_of _ = []

-- an echo as it is sent: a byte is rubbed out by a step back, a space and a step back
abbrev pub echo_bytes : Echo → List ℕ
echo_bytes Nothing = []
echo_bytes (One byte) = doubled byte
echo_bytes (Rub count) = flat_map {X = ℕ} (λ _. 8 ∷ 32 ∷ 8 ∷ []) (replicate count 0)
echo_bytes NewLine = 13 ∷ 10 ∷ []
