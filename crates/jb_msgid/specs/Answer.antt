-- What reading the text of a MSGID answers.
use Rattle.std.specs.Prelude.{◌≡◌, ◌⊎◌, ⊤, ℕ, List, Result, Ok, Err, length}
use Rattle.jb_msgid.specs.Address.{HasNoAddress, IsUnclosed}
use Rattle.jb_msgid.specs.Text.{IsMsgId, LacksSerial}
use Rattle.jb_msgid.specs.declared.error.MsgIdError.{MsgIdError}
use Rattle.jb_msgid.specs.declared.error.MsgIdError.TheVariants.{BadQuote, EmptyAddress, NoSerial, OutOfMemory}
use Rattle.jb_msgid.specs.declared.value.MsgId.{MsgId}

-- the value of the text, or why it has none, or want of memory
abbrev pub ReadsMsgId : List ℕ → Result MsgId MsgIdError → Type 0
ReadsMsgId text (Ok value) = IsMsgId text value
ReadsMsgId text (Err (NoSerial at)) = LacksSerial text at
ReadsMsgId text (Err (BadQuote at)) = IsUnclosed text × (at ≡ length text)
ReadsMsgId text (Err EmptyAddress) = HasNoAddress text
ReadsMsgId text (Err OutOfMemory) = ⊤

-- the one answer, unless memory runs out
abbrev pub IsUnlessMemory : Result MsgId MsgIdError → Result MsgId MsgIdError → Type 0
IsUnlessMemory result wanted = (result ≡ wanted) ⊎ (result ≡ Err OutOfMemory)

-- why a text begins with no address, or want of memory
abbrev pub IsAddressError : List ℕ → MsgIdError → Type 0
IsAddressError text (NoSerial at) = ⊥
IsAddressError text (BadQuote at) = IsUnclosed text × (at ≡ length text)
IsAddressError text EmptyAddress = HasNoAddress text
IsAddressError text OutOfMemory = ⊤
