-- The first unit of bytes, found from the front: what the decoder's private helpers go by.
use Rattle.std.specs.Prelude.{ℕ, ◌==◌, Bool, false, not, ◌&&◌, List, [], ◌∷◌, Option, Some, None, if◌then◌else◌}
use Rattle.jb_telnet.specs.declared.codes.TheConstants.{SE, AYT, EC, EL, SB, WILL, WONT, DO, DONT, IAC}
use Rattle.jb_telnet.specs.declared.event.Event.{Event}
use Rattle.jb_telnet.specs.declared.event.Event.TheVariants.{Byte, AreYouThere, EraseChar, EraseLine, Sub, Other}
use Rattle.jb_telnet.specs.declared.verb.Verb.{Verb}
use Rattle.jb_telnet.specs.declared.verb.Verb.TheVariants.{Will, Wont, Do, Dont}
use Rattle.jb_telnet.specs.Codes.{said}

-- the event of the first unit and what comes behind it
abbrev pub First : Type 0
First = Option (Event × List ℕ)

-- 255 and one byte
abbrev pub command_event : ℕ → Event
command_event code = if code == IAC then Byte IAC else if code == AYT then AreYouThere else if code == EC then EraseChar else if code == EL then EraseLine else Other code

-- behind 255 250, or behind the first byte of a pair there
abbrev pub behind_block : Bool → List ℕ → First
behind_block escaped [] = None
behind_block escaped (byte ∷ bytes) = if escaped && (byte == SE) then Some (Sub, bytes) else behind_block (not escaped && (byte == IAC)) bytes

-- behind 255 and a verb
abbrev pub behind_verb : Verb → List ℕ → First
behind_verb verb [] = None
behind_verb verb (option ∷ bytes) = Some (said verb option, bytes)

-- behind 255
abbrev pub behind_iac : List ℕ → First
behind_iac [] = None
behind_iac (code ∷ bytes) =
    if code == SB then behind_block false bytes
    else if code == WILL then behind_verb Will bytes
    else if code == WONT then behind_verb Wont bytes
    else if code == DO then behind_verb Do bytes
    else if code == DONT then behind_verb Dont bytes
    else Some (command_event code, bytes)

-- the first unit of these bytes, where there is one
abbrev pub first_unit : List ℕ → First
first_unit [] = None
first_unit (byte ∷ bytes) = if byte == IAC then behind_iac bytes else Some (Byte byte, bytes)
