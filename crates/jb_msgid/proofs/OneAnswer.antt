-- Each text has one answer.
use Rattle.std.proofs.Common.{◌≡◌, ℕ, List, Result, Ok, Err, length, refl, ap, ◌∙◌, subst, inl, inr, arith}
use Rattle.jb_msgid.specs.Address.{HasNoAddress, IsUnclosed}
use Rattle.jb_msgid.specs.Answer.{ReadsMsgId, IsUnlessMemory}
use Rattle.jb_msgid.specs.Serial.{IsFirstWrong, IsSerial}
use Rattle.jb_msgid.specs.Text.{IsMsgId, LacksSerial}
use Rattle.jb_msgid.specs.declared.error.MsgIdError.{MsgIdError}
use Rattle.jb_msgid.specs.declared.error.MsgIdError.TheVariants.{BadQuote, EmptyAddress, NoSerial, OutOfMemory}
use Rattle.jb_msgid.specs.declared.value.MsgId.{MsgId}
use Rattle.jb_msgid.proofs.Addresses.{address_closed, address_once, address_there, unclosed_there}
use Rattle.jb_msgid.proofs.Serials.{serial_once, serial_right, wrong_once}

-- a value of these parts
made : List ℕ → ℕ → MsgId
made address serial = record { address = address; serial = serial }

-- a text has one value at most
one_value : (text : List ℕ) (one other : MsgId) → IsMsgId text one → IsMsgId text other → one ≡ other
unfolding made
one_value text one other is is' =
    let same = address_once text one.address is.behind other.address is'.behind is.address is'.address in
    let serial : one.serial ≡ other.serial = serial_once is'.behind one.serial other.serial (subst (λ (l : List ℕ). IsSerial l one.serial) same.1 is.serial) is'.serial in
    ap (λ (l : List ℕ). made l one.serial) same.0 ∙ ap (λ (n : ℕ). made other.address n) serial

-- and none where its serial number is wrong
value_or_wrong : (text : List ℕ) (value : MsgId) (at : ℕ) → IsMsgId text value → LacksSerial text at → ⊥
value_or_wrong text value at is lacks =
    let same = address_once text lacks.address lacks.behind value.address is.behind lacks.begins is.address in
    serial_right is.behind value.serial lacks.place is.serial (subst (λ (l : List ℕ). IsFirstWrong l lacks.place) same.1 lacks.wrong)

-- which is so at one place
one_wrong : (text : List ℕ) (one other : ℕ) → LacksSerial text one → LacksSerial text other → one ≡ other
one_wrong text one other lacks lacks' =
    let same = address_once text lacks.address lacks.behind lacks'.address lacks'.behind lacks.begins lacks'.begins in
    let place : lacks.place ≡ lacks'.place = wrong_once lacks'.behind lacks.place lacks'.place (subst (λ (l : List ℕ). IsFirstWrong l lacks.place) same.1 lacks.wrong) lacks'.wrong in
    let counted = lacks.counted in
    let counted' = lacks'.counted in
    omega (arith, ap length same.1, place)

pub only_value : (text : List ℕ) (result : Result MsgId MsgIdError) → ReadsMsgId text result → (value : MsgId) → IsMsgId text value → IsUnlessMemory result (Ok value)
only_value text (Ok mine) reading value is = inl (ap Ok (one_value text mine value reading is))
only_value text (Err (NoSerial at)) reading value is = absurd (value_or_wrong text value at is reading)
only_value text (Err (BadQuote at)) reading value is = absurd (address_closed text value.address is.behind is.address reading.0)
only_value text (Err EmptyAddress) reading value is = absurd (address_there text value.address is.behind is.address reading)
only_value text (Err OutOfMemory) reading value is = inr refl

pub only_no_serial : (text : List ℕ) (result : Result MsgId MsgIdError) → ReadsMsgId text result → (at : ℕ) → LacksSerial text at → IsUnlessMemory result (Err (NoSerial at))
only_no_serial text (Ok mine) reading at lacks = absurd (value_or_wrong text mine at reading lacks)
only_no_serial text (Err (NoSerial mine)) reading at lacks = inl (ap (λ (n : ℕ). Err (NoSerial n)) (one_wrong text mine at reading lacks))
only_no_serial text (Err (BadQuote mine)) reading at lacks = absurd (address_closed text lacks.address lacks.behind lacks.begins reading.0)
only_no_serial text (Err EmptyAddress) reading at lacks = absurd (address_there text lacks.address lacks.behind lacks.begins reading)
only_no_serial text (Err OutOfMemory) reading at lacks = inr refl

pub only_bad_quote : (text : List ℕ) (result : Result MsgId MsgIdError) → ReadsMsgId text result → IsUnclosed text → IsUnlessMemory result (Err (BadQuote (length text)))
only_bad_quote text (Ok mine) reading unclosed = absurd (address_closed text mine.address reading.behind reading.address unclosed)
only_bad_quote text (Err (NoSerial at)) reading unclosed = absurd (address_closed text reading.address reading.behind reading.begins unclosed)
only_bad_quote text (Err (BadQuote at)) reading unclosed = inl (ap (λ (n : ℕ). Err (BadQuote n)) reading.1)
only_bad_quote text (Err EmptyAddress) reading unclosed = absurd (unclosed_there text unclosed reading)
only_bad_quote text (Err OutOfMemory) reading unclosed = inr refl

pub only_empty : (text : List ℕ) (result : Result MsgId MsgIdError) → ReadsMsgId text result → HasNoAddress text → IsUnlessMemory result (Err EmptyAddress)
only_empty text (Ok mine) reading none = absurd (address_there text mine.address reading.behind reading.address none)
only_empty text (Err (NoSerial at)) reading none = absurd (address_there text reading.address reading.behind reading.begins none)
only_empty text (Err (BadQuote at)) reading none = absurd (unclosed_there text reading.0 none)
only_empty text (Err EmptyAddress) reading none = inl refl
only_empty text (Err OutOfMemory) reading none = inr refl
