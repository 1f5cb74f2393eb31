-- What stands behind an address is a serial number, or ceases to be one at one place.
use Rattle.std.proofs.Common.{◌≡◌, ℕ, zero, suc, ◌+◌, ◌<◌, ◌≤◌, true, false, List, [], ◌∷◌, Some, None, length, drop, take, get_or, refl, ap, sym, ◌∙◌, inl, inr, subst, arith, ◌^◌, lit≤, add-one}
use Rattle.std.specs.Prelude.{slice_get}
use Rattle.std.specs.Char.{digit_value}
use Rattle.std.specs.Str.Parse.{AllDigits, digits_value}
use Rattle.std.proofs.lemmas.Bool.{cases_lt, true≢false}
use Rattle.std.proofs.lemmas.Bool.Decides.{nat_tests}
use Rattle.std.proofs.lemmas.Option.{slice_get-get_or, slice_get_past}
use Rattle.std.proofs.lemmas.List.{take_all, length-take-le, get_or-take}
use Rattle.std.proofs.lemmas.Int.Digits.{digits_value-lt}
use Rattle.jb_msgid.specs.Serial.{IsFirstWrong, IsSerial, may_stand}

-- a digit may stand at each of the eight places behind the space
digit_stands : (k byte : ℕ) → k < 8 → digit_value byte < 16 → may_stand (Some byte) (suc k) ≡ true
digit_stands k byte few small = grind (arith, nat_tests)

-- each digit has a value below the base
digit_at : (radix : ℕ) (digits : List ℕ) (k : ℕ) → AllDigits radix digits → k < length digits → digit_value (get_or digits k 0) < radix
digit_at radix [] k each within = absurd (omega arith)
digit_at radix (digit ∷ digits) zero each within = each.0
digit_at radix (digit ∷ digits) (suc k) each within = digit_at radix digits k each.1 (omega arith)

-- each place of a space and digits is right, as far as they go
pub right_so_far : (digits : List ℕ) (n k : ℕ) → n ≤ length digits → n ≤ 8 → AllDigits 16 (take n digits) → k < suc n → may_stand (slice_get (32 ∷ digits) k) k ≡ true
right_so_far digits n zero within few each below = refl
right_so_far digits n (suc k) within few each below =
    let here : k < length digits = omega arith in
    let in_front : k < length (take n digits) = omega (arith, length-take-le n digits within) in
    let digit : digit_value (get_or digits k 0) < 16 = subst (λ (d : ℕ). digit_value d < 16) (get_or-take n digits k 0 (omega arith)) (digit_at 16 (take n digits) k each in_front) in
    ap (λ o. may_stand o (suc k)) (slice_get-get_or digits k 0 here) ∙ digit_stands k (get_or digits k 0) (omega arith) digit

-- the test of a place that is no digit
no_digit : (k byte : ℕ) → 16 ≤ digit_value byte → may_stand (Some byte) (suc k) ≡ false
no_digit k byte large = grind (arith, nat_tests)

too_early : (k : ℕ) → k < 8 → may_stand None (suc k) ≡ false
too_early k few = grind (arith, nat_tests)

-- the first place that holds no digit
pub first_wrong : (digits : List ℕ) (place : ℕ) → place ≤ length digits → place < 8 → AllDigits 16 (take place digits)
    → (place < length digits → 16 ≤ digit_value (get_or digits place 0)) → IsFirstWrong (32 ∷ digits) (place + 1)
first_wrong digits place within few each none =
    rw add-one (record {
      within = omega arith;
      right = λ k below. right_so_far digits place k within (omega arith) each below;
      wrong = elim (cases_lt place (length digits)) [
        | inl here ↦ ap (λ o. may_stand o (suc place)) (slice_get-get_or digits place 0 here) ∙ no_digit place (get_or digits place 0) (none here)
        | inr past ↦ ap (λ o. may_stand o (suc place)) (slice_get_past digits place past) ∙ too_early place few
      ];
    })

-- the place behind the eight digits, where more stands
pub too_long : (digits : List ℕ) → 8 < length digits → AllDigits 16 (take 8 digits) → IsFirstWrong (32 ∷ digits) 9
too_long digits long each = record {
  within = omega arith;
  right = λ k below. right_so_far digits 8 k (omega arith) (omega arith) each below;
  wrong = ap (λ o. may_stand o 9) (slice_get-get_or digits 8 0 long);
}

-- eight digits and no more
pub is_serial : (digits : List ℕ) (number : ℕ) → length digits ≡ 8 → AllDigits 16 (take 8 digits) → number ≡ digits_value 16 (take 8 digits) → IsSerial (32 ∷ digits) number
is_serial digits number eight each value =
    let whole : take 8 digits ≡ digits = take_all 8 digits (omega arith) in
    record { digits = digits; spelled = refl; eight = eight; each = subst (λ (l : List ℕ). AllDigits 16 l) whole each; value = sym (value ∙ ap (digits_value 16) whole) }

-- the powers that a number of fewer than eight digits stays below
sixteen_to : (n : ℕ) → n < 8 → 16 ^ n ≤ 268435456
sixteen_to zero few = lit≤ tt
sixteen_to (suc zero) few = lit≤ tt
sixteen_to (suc (suc zero)) few = lit≤ tt
sixteen_to (suc (suc (suc zero))) few = lit≤ tt
sixteen_to (suc (suc (suc (suc zero)))) few = lit≤ tt
sixteen_to (suc (suc (suc (suc (suc zero))))) few = lit≤ tt
sixteen_to (suc (suc (suc (suc (suc (suc zero)))))) few = lit≤ tt
sixteen_to (suc (suc (suc (suc (suc (suc (suc zero))))))) few = lit≤ tt
sixteen_to (suc (suc (suc (suc (suc (suc (suc (suc n)))))))) few = absurd (omega arith)

-- the number of fewer than eight digits leaves room for one more
pub leaves_room : (digits : List ℕ) (place : ℕ) → place ≤ length digits → place < 8 → AllDigits 16 (take place digits) → digits_value 16 (take place digits) < 268435456
leaves_room digits place within few each =
    let size : length (take place digits) ≡ place = length-take-le place digits within in
    let below : digits_value 16 (take place digits) < 16 ^ place = subst (λ (n : ℕ). digits_value 16 (take place digits) < 16 ^ n) size (digits_value-lt 16 (take place digits) each) in
    omega (arith, sixteen_to place few)

-- a serial number has no wrong place
pub serial_right : (text : List ℕ) (serial place : ℕ) → IsSerial text serial → IsFirstWrong text place → ⊥
serial_right text serial place is wrong =
    let digits = is.digits in
    let eight = is.eight in
    let whole : take 8 digits ≡ digits = take_all 8 digits (omega arith) in
    let size : length text ≡ 9 = ap length is.spelled ∙ (let more : suc (length digits) ≡ 9 = omega arith in more) in
    let within = wrong.within in
    let stands : may_stand (slice_get text place) place ≡ true = ap (λ (l : List ℕ). may_stand (slice_get l place) place) is.spelled ∙ elim (cases_lt place 9) [
      | inl below ↦ right_so_far digits 8 place (omega arith) (omega arith) (subst (λ (l : List ℕ). AllDigits 16 l) (sym whole) is.each) below
      | inr past ↦
          let nine : place ≡ 9 = omega arith in
          ap (λ (n : ℕ). may_stand (slice_get (32 ∷ digits) n) n) nine ∙ ap (λ o. may_stand o 9) (slice_get_past digits 8 (omega arith))
    ] in
    true≢false (sym stands ∙ wrong.wrong)

-- a text has one serial number at most
pub serial_once : (text : List ℕ) (one other : ℕ) → IsSerial text one → IsSerial text other → one ≡ other
serial_once text one other is is' =
    let digits : is.digits ≡ is'.digits = ap (drop 1) (sym is.spelled ∙ is'.spelled) in
    sym is.value ∙ ap (digits_value 16) digits ∙ is'.value

-- and one first wrong place
pub wrong_once : (text : List ℕ) (one other : ℕ) → IsFirstWrong text one → IsFirstWrong text other → one ≡ other
wrong_once text one other wrong wrong' =
    elim (cases_lt one other) [
      | inl below ↦ absurd (true≢false (sym (wrong'.right one below) ∙ wrong.wrong))
      | inr from ↦ elim (cases_lt other one) [
        | inl below ↦ absurd (true≢false (sym (wrong.right other below) ∙ wrong'.wrong))
        | inr to ↦ omega arith
      ]
    ]
