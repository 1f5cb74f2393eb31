-- What is written is read back.
use Rattle.std.proofs.Common.{◌≡◌, ◌≢◌, ℕ, zero, suc, ◌*◌, ◌/◌, ◌%◌, ◌^◌, ◌<◌, ◌==◌, Bool, true, false, All, List, [], ◌∷◌, ◌++◌, length, refl, ◌∙◌, inl, inr, arith, append_assoc, length-append}
use Rattle.std.specs.Char.{digit_char, digit_value}
use Rattle.std.specs.Str.Parse.{AllDigits, digits_value}
use Rattle.std.proofs.lemmas.Bool.{eqb-false, or_parts}
use Rattle.std.proofs.lemmas.Int.Digits.{digits_push, digits_value_push}
use Rattle.std.proofs.lemmas.List.Elements.{All-nil, All-cons}
use Rattle.std.proofs.lemmas.Str.{digit_value-digit_char}
use Rattle.jb_msgid.specs.Address.{BeginsWithout, HasAddress, quotes_doubled}
use Rattle.jb_msgid.specs.Serial.{IsSerial, last_digits}
use Rattle.jb_msgid.specs.Text.{IsMsgId, address_text, msgid_text, wants_quotes}
use Rattle.jb_msgid.specs.declared.value.MsgId.{MsgId}

-- an address without a space or a quote
no_spaces : (address : List ℕ) → wants_quotes address ≡ false → All (λ (byte : ℕ). byte ≢ 32) address
no_spaces [] none = All-nil (λ (byte : ℕ). byte ≢ 32)
no_spaces (byte ∷ bytes) none =
    let parts = or_parts _ (wants_quotes bytes) none in
    All-cons (λ (b : ℕ). b ≢ 32) byte bytes (eqb-false byte 32 (or_parts (byte == 32) (byte == 34) parts.0).0) (no_spaces bytes parts.1)

no_first_quote : (address : List ℕ) → wants_quotes address ≡ false → BeginsWithout 34 address
no_first_quote [] none = tt
no_first_quote (byte ∷ bytes) none =
    let parts = or_parts _ (wants_quotes bytes) none in
    eqb-false byte 34 (or_parts (byte == 32) (byte == 34) parts.0).1

-- an address is read as it was written, where a space stands behind it
address_read : (quotes : Bool) (address behind : List ℕ) → wants_quotes address ≡ quotes → 0 < length address → HasAddress (address_text address ++ 32 ∷ behind) address (32 ∷ behind)
address_read true address behind is some =
    let no_quote : 32 ≡ 34 → ⊥ = λ same. omega (arith, same) in
    let written : address_text address ++ 32 ∷ behind ≡ 34 ∷ quotes_doubled address ++ 34 ∷ (32 ∷ behind) = rw is (append_assoc (34 ∷ quotes_doubled address) (34 ∷ []) (32 ∷ behind)) in
    inr (record { spelled = written; closed = no_quote }, some)
address_read false address behind is some =
    let written : address_text address ++ 32 ∷ behind ≡ address ++ 32 ∷ behind = rw is refl in
    inl (record { spelled = written; some = some; unquoted = no_first_quote address is; spaceless = no_spaces address is; ends = refl })

-- so many digits
length-last_digits : (width n : ℕ) → length (last_digits width n) ≡ width
length-last_digits zero n = refl
length-last_digits (suc width) n = omega (arith, length-append (last_digits width (n / 16)) (digit_char (n % 16) ∷ []), length-last_digits width (n / 16))

-- each of them is one
digits-last_digits : (width n : ℕ) → AllDigits 16 (last_digits width n)
digits-last_digits zero n = tt
digits-last_digits (suc width) n =
    let value : digit_value (digit_char (n % 16)) ≡ n % 16 = digit_value-digit_char (n % 16) (omega arith) in
    let small : digit_value (digit_char (n % 16)) < 16 = rw value (omega arith) in
    digits_push 16 (last_digits width (n / 16)) (digit_char (n % 16)) (digits-last_digits width (n / 16)) small

-- and they make the number
value-last_digits : (width n : ℕ) → n < 16 ^ width → digits_value 16 (last_digits width n) ≡ n
value-last_digits zero n small = omega arith
value-last_digits (suc width) n small =
    let shape : 16 ^ suc width ≡ 16 * 16 ^ width = grind arith in
    let lower : n / 16 < 16 ^ width = omega arith in
    let value : digit_value (digit_char (n % 16)) ≡ n % 16 = digit_value-digit_char (n % 16) (omega arith) in
    let inner : digits_value 16 (last_digits width (n / 16)) ≡ n / 16 = value-last_digits width (n / 16) lower in
    digits_value_push 16 (last_digits width (n / 16)) (digit_char (n % 16)) ∙ rw (inner, value) (omega arith)

-- a serial number is read as it was written
serial_read : (serial : ℕ) → serial < 16 ^ 8 → IsSerial (32 ∷ last_digits 8 serial) serial
serial_read serial small =
    record { digits = last_digits 8 serial; spelled = refl; eight = length-last_digits 8 serial; each = digits-last_digits 8 serial; value = value-last_digits 8 serial small }

-- the text of a value is read as that value
pub msgid_text_read : (value : MsgId) → 0 < length value.address → value.serial < 16 ^ 8 → IsMsgId (msgid_text value) value
msgid_text_read value some small = record {
  behind = 32 ∷ last_digits 8 value.serial;
  address = address_read (wants_quotes value.address) value.address (last_digits 8 value.serial) refl some;
  serial = serial_read value.serial small;
}
