-- Texts of MSGIDs after FTS-0009, with their values, and what is refused at its place.
use Rattle.std.proofs.Common.{◌≡◌, ℕ, List, [], ◌∷◌, Ok, Err, Some, length, take, drop, true, codes, refl, inl, inr, arith}
use Rattle.std.specs.Prelude.{nat_lt, slice_get}
use Rattle.std.specs.Char.{digit_value}
use Rattle.std.specs.List.{list_all}
use Rattle.std.specs.Str.Parse.{AllDigits, digits_value}
use Rattle.std.proofs.lemmas.Bool.{cases_lt}
use Rattle.std.proofs.lemmas.Bool.Decides.{nat_tests}
use Rattle.jb_msgid.specs.Address.{HasAddress}
use Rattle.jb_msgid.specs.Answer.{ReadsMsgId}
use Rattle.jb_msgid.specs.Serial.{IsSerial}
use Rattle.jb_msgid.specs.Text.{msgid_text}
use Rattle.jb_msgid.specs.declared.error.MsgIdError.TheVariants.{BadQuote, EmptyAddress, NoSerial}
use Rattle.jb_msgid.proofs.Beginnings.{first_space, plain_begins, unclosed_text}
use Rattle.jb_msgid.proofs.Serials.{first_wrong, too_long}

-- a plain address that the digit 2 begins
plain : (text : List ℕ) (end : ℕ) → slice_get text 0 ≡ Some 50 → end ≡ first_space text → HasAddress text (take end text) (drop end text)
plain text end begins is = inl (plain_begins text 50 end begins (omega arith) (omega arith) is)

-- digits of base 16, by a test of each
each_digit : (digits : List ℕ) → list_all (λ digit. nat_lt (digit_value digit) 16) digits ≡ true → AllDigits 16 digits
each_digit [] all = tt
each_digit (digit ∷ digits) all =
    elim (cases_lt (digit_value digit) 16) [
      | inl small ↦ (small, each_digit digits (grind (arith, nat_tests)))
      | inr large ↦ absurd (grind (arith, nat_tests))
    ]

-- eight of them behind a space
eight_digits : (digits : List ℕ) (serial : ℕ) → length digits ≡ 8 → list_all (λ digit. nat_lt (digit_value digit) 16) digits ≡ true → digits_value 16 digits ≡ serial → IsSerial (32 ∷ digits) serial
eight_digits digits serial eight all value = record { digits = digits; spelled = refl; eight = eight; each = each_digit digits all; value = value }

-- the usual text of the MSGIDs of this board
usual : ReadsMsgId (codes "2:5020/1042 01000001") (Ok (record { address = codes "2:5020/1042"; serial = 16777217 }))
usual = record {
  behind = codes " 01000001";
  address = plain (codes "2:5020/1042 01000001") 11 refl refl;
  serial = eight_digits (codes "01000001") _ refl refl refl;
}

-- digits in capitals mean the same
capitals : ReadsMsgId (codes "2:1/1 0000000A") (Ok (record { address = codes "2:1/1"; serial = 10 }))
capitals = record {
  behind = codes " 0000000A";
  address = plain (codes "2:1/1 0000000A") 5 refl refl;
  serial = eight_digits (codes "0000000A") _ refl refl refl;
}

-- an address between quotes, with two quotes of its own
quoted : ReadsMsgId (codes "\"a \"\"b\"\"\" ffffffff") (Ok (record { address = codes "a \"b\""; serial = 4294967295 }))
quoted = record {
  behind = codes " ffffffff";
  address = inr (record { spelled = refl; closed = omega arith }, omega arith);
  serial = eight_digits (codes "ffffffff") _ refl refl refl;
}

-- what is written: quotes where they are wanted, and digits in lower case
written : (msgid_text (record { address = codes "2:1/1"; serial = 10 }) ≡ codes "2:1/1 0000000a")
    × (msgid_text (record { address = codes "2:1/1"; serial = 3735928559 }) ≡ codes "2:1/1 deadbeef")
    × (msgid_text (record { address = codes "a \"b\""; serial = 4294967295 }) ≡ codes "\"a \"\"b\"\"\" ffffffff")
    × (msgid_text (record { address = codes "\""; serial = 0 }) ≡ codes "\"\"\"\" 00000000")
written = (refl, refl, refl, refl)

-- seven digits, and none
seven_digits : ReadsMsgId (codes "2:1/1 0000000") (Err (NoSerial 13))
seven_digits = record {
  address = codes "2:1/1";
  behind = codes " 0000000";
  place = 8;
  begins = plain (codes "2:1/1 0000000") 5 refl refl;
  wrong = first_wrong (codes "0000000") 7 (omega arith) (omega arith) (each_digit (codes "0000000") refl) (λ within. omega arith);
  counted = refl;
}

no_digit : ReadsMsgId (codes "2:1/1 ") (Err (NoSerial 6))
no_digit = record {
  address = codes "2:1/1";
  behind = codes " ";
  place = 1;
  begins = plain (codes "2:1/1 ") 5 refl refl;
  wrong = first_wrong [] 0 (omega arith) (omega arith) tt (λ within. omega arith);
  counted = refl;
}

-- a letter that is no digit of base 16
letter : ReadsMsgId (codes "2:1/1 0000g000") (Err (NoSerial 10))
letter = record {
  address = codes "2:1/1";
  behind = codes " 0000g000";
  place = 5;
  begins = plain (codes "2:1/1 0000g000") 5 refl refl;
  wrong = first_wrong (codes "0000g000") 4 (omega arith) (omega arith) (each_digit (codes "0000") refl) (λ within. omega arith);
  counted = refl;
}

-- nine digits
nine_digits : ReadsMsgId (codes "2:1/1 000000001") (Err (NoSerial 14))
nine_digits = record {
  address = codes "2:1/1";
  behind = codes " 000000001";
  place = 9;
  begins = plain (codes "2:1/1 000000001") 5 refl refl;
  wrong = too_long (codes "000000001") (omega arith) (each_digit (codes "00000000") refl);
  counted = refl;
}

-- a quote that nothing closes is told at the end of the text
unclosed : ReadsMsgId (codes "\"a\"\"b 0000000a") (Err (BadQuote 14))
unclosed = (unclosed_text (codes "\"a\"\"b 0000000a") (codes "a\"\"b 0000000a") (codes "a\"b 0000000a") refl refl refl, refl)

-- no text, a space at its beginning, and nothing between quotes
no_address : ReadsMsgId [] (Err EmptyAddress) × ReadsMsgId (codes " 0000000a") (Err EmptyAddress) × ReadsMsgId (codes "\"\" 0000000a") (Err EmptyAddress)
no_address = (inl refl, inr (inl refl), inr (inr (codes " 0000000a", record { spelled = refl; closed = omega arith })))
