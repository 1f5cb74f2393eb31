-- The text of a MSGID: an address, a space and a serial number (FTS-0009, "MSGID").
use Rattle.std.specs.Prelude.{◌≡◌, ℕ, ◌+◌, Bool, List, [], ◌∷◌, ◌++◌, length, ◌==◌, ◌||◌, if◌then◌else◌}
use Rattle.std.specs.List.{list_any}
use Rattle.jb_msgid.specs.Address.{HasAddress, quotes_doubled}
use Rattle.jb_msgid.specs.Serial.{IsFirstWrong, IsSerial, last_digits}
use Rattle.jb_msgid.specs.declared.value.MsgId.{MsgId}

-- this text is that of this address and this serial number
pub record IsMsgId (text : List ℕ) (value : MsgId) : Type 0 where
  pub behind : List ℕ
  pub address : HasAddress text value.address behind
  pub serial : IsSerial behind value.serial

-- the text begins with an address, and at this place it ceases to go on as a serial number
pub record LacksSerial (text : List ℕ) (at : ℕ) : Type 0 where
  pub address : List ℕ
  pub behind : List ℕ
  pub place : ℕ
  pub begins : HasAddress text address behind
  pub wrong : IsFirstWrong behind place
  pub counted : at + length behind ≡ length text + place

-- whether an address is written between quotes: it holds a space or a quote
abbrev pub wants_quotes : List ℕ → Bool
wants_quotes address = list_any (λ byte. byte == 32 || byte == 34) address

-- an address as it is written
abbrev pub address_text : List ℕ → List ℕ
address_text address = if wants_quotes address then 34 ∷ quotes_doubled address ++ 34 ∷ [] else address

-- the one text that is written: quotes only where they are wanted, and digits in lower case
abbrev pub msgid_text : MsgId → List ℕ
msgid_text value = address_text value.address ++ 32 ∷ last_digits 8 value.serial
