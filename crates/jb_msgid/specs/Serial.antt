-- The serial number of a MSGID behind its address: a space and eight digits of base 16 (FTS-0009, "MSGID").
use Rattle.std.specs.Prelude.{◌≡◌, ℕ, zero, suc, ◌/◌, ◌%◌, ◌<◌, ◌≤◌, List, [], ◌∷◌, ◌++◌, Bool, Option, Some, None, IsTrue, IsFalse, length, slice_get, ◌==◌, ◌&&◌, nat_le, if◌then◌else◌}
use Rattle.std.specs.Char.{digit_char, is_digit}
use Rattle.std.specs.Str.Parse.{AllDigits, digits_value}

-- a space and eight digits in either case, of which this is the number
pub record IsSerial (text : List ℕ) (serial : ℕ) : Type 0 where
  pub digits : List ℕ
  pub spelled : text ≡ 32 ∷ digits
  pub eight : length digits ≡ 8
  pub each : AllDigits 16 digits
  pub value : digits_value 16 digits ≡ serial

-- whether a byte, or the end, may stand at a place: a space, then eight digits, then the end
abbrev pub may_stand : Option ℕ → ℕ → Bool
may_stand None place = place == 9
may_stand (Some byte) place = if place == 0 then byte == 32 else nat_le place 8 && is_digit byte 16

-- the first place, the end among them, at which something else stands
pub record IsFirstWrong (text : List ℕ) (place : ℕ) : Type 0 where
  pub within : place ≤ length text
  pub right : (k : ℕ) → k < place → IsTrue (may_stand (slice_get text k) k)
  pub wrong : IsFalse (may_stand (slice_get text place) place)

-- so many digits of a number in lower case, the lowest last
abbrev pub last_digits : ℕ → ℕ → List ℕ
last_digits zero n = []
last_digits (suc width) n = last_digits width (n / 16) ++ digit_char (n % 16) ∷ []
