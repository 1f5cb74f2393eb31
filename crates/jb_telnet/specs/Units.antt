-- The units of a Telnet stream, and how whole bytes are cut into them (RFC 854, RFC 855).
use Rattle.std.specs.Prelude.{◌≡◌, ◌≢◌, ℕ, ◌==◌, All, List, [], ◌∷◌, ◌++◌, if◌then◌else◌}
use Rattle.std.specs.List.{flat_map}
use Rattle.jb_telnet.specs.declared.codes.TheConstants.{SE, AYT, EC, EL, SB, WILL, WONT, DO, DONT, IAC}
use Rattle.jb_telnet.specs.declared.event.Event.{Event}
use Rattle.jb_telnet.specs.declared.event.Event.TheVariants.{Byte, Do, Dont, Will, Wont, AreYouThere, EraseChar, EraseLine, Sub, Other}

-- a byte of data as it is sent: 255 is doubled
abbrev pub doubled : ℕ → List ℕ
doubled byte = if byte == IAC then IAC ∷ IAC ∷ [] else byte ∷ []

-- what stands in a subnegotiation: plain bytes, and pairs of 255 and a byte
pub data Part : Type 0 where
  plain : ℕ → Part
  pair : ℕ → Part

-- the bytes of a part
abbrev pub part_bytes : Part → List ℕ
part_bytes (plain byte) = byte ∷ []
part_bytes (pair byte) = IAC ∷ byte ∷ []

-- a plain byte is not 255, and a pair is not the end
abbrev pub IsPart : Part → Type 0
IsPart (plain byte) = byte ≢ IAC
IsPart (pair byte) = byte ≢ SE

-- parts between 255 250 and 255 240
pub record IsSubnegotiation (unit : List ℕ) : Type 0 where
  pub parts : List Part
  pub each : All IsPart parts
  pub is : unit ≡ IAC ∷ SB ∷ flat_map part_bytes parts ++ IAC ∷ SE ∷ []

-- a byte behind 255 that has no event of its own
abbrev pub IsOther : ℕ → Type 0
IsOther code = All (λ named. code ≢ named) (AYT ∷ EC ∷ EL ∷ SB ∷ WILL ∷ WONT ∷ DO ∷ DONT ∷ IAC ∷ [])

-- the bytes are one unit, and say this
abbrev pub Spells : List ℕ → Event → Type 0
Spells unit (Byte byte) = unit ≡ doubled byte
Spells unit (Will option) = unit ≡ IAC ∷ WILL ∷ option ∷ []
Spells unit (Wont option) = unit ≡ IAC ∷ WONT ∷ option ∷ []
Spells unit (Do option) = unit ≡ IAC ∷ DO ∷ option ∷ []
Spells unit (Dont option) = unit ≡ IAC ∷ DONT ∷ option ∷ []
Spells unit AreYouThere = unit ≡ IAC ∷ AYT ∷ []
Spells unit EraseChar = unit ≡ IAC ∷ EC ∷ []
Spells unit EraseLine = unit ≡ IAC ∷ EL ∷ []
Spells unit Sub = IsSubnegotiation unit
Spells unit (Other code) = IsOther code × (unit ≡ IAC ∷ code ∷ [])

-- a unit that says this stands first, and these bytes behind it
pub record StartsWith (event : Event) (bytes behind : List ℕ) : Type 0 where
  pub unit : List ℕ
  pub spelled : Spells unit event
  pub is : bytes ≡ unit ++ behind

-- no unit stands first
abbrev pub StartsWithNone : List ℕ → Type 0
StartsWithNone bytes = (event : Event) (behind : List ℕ) → ¬ StartsWith event bytes behind

-- the bytes are units that say these events, and a rest with no unit as a beginning
abbrev pub CutsInto : List ℕ → List Event → List ℕ → Type 0
CutsInto bytes [] rest = (bytes ≡ rest) × StartsWithNone rest
CutsInto bytes (event ∷ events) rest = (behind : List ℕ) × StartsWith event bytes behind × CutsInto behind events rest
