-- Digits, and the numbers that they write.
use Rattle.std.proofs.Common.{◌≡◌, ℕ, zero, suc, ◌+◌, ◌-◌, ◌*◌, ◌<◌, ◌≤◌, Bool, true, false, ◌&&◌, List, [], ◌∷◌, ◌++◌, length, take, get_or, refl, ap, ◌∙◌, arith}
use Rattle.std.specs.Char.{digit_value, is_ascii_digit}
use Rattle.std.specs.Int.{IsInRange}
use Rattle.std.specs.List.{list_all}
use Rattle.std.specs.Str.Parse.{digits_value, digits_value_after}
use Rattle.std.proofs.lemmas.Bool.Decides.{nat_tests}
use Rattle.std.proofs.lemmas.List.{length-take, take_more}
use Rattle.std.proofs.lemmas.Str.{digit_value_digit}
use Rattle.std.proofs.lemmas.Str.Parse.{IsDigitsTest, IsNumeralModel, digits_value_short, numerals_by_value}

-- two tests that hold together
both : (a b : Bool) → (a && b) ≡ true → (a ≡ true) × (b ≡ true)
both true b h = (refl, h)
both false b h = (h, absurd (grind arith))

together : (a b : Bool) → a ≡ true → b ≡ true → (a && b) ≡ true
together a b h k = rw (h, k) refl

digit_range : (c : ℕ) → is_ascii_digit c ≡ true → IsInRange 48 57 c
digit_range c h = grind (arith, nat_tests)

range_digit : (c : ℕ) → IsInRange 48 57 c → is_ascii_digit c ≡ true
range_digit c h = grind (arith, nat_tests)

-- the test of all bytes tells digits
tells : IsDigitsTest (λ ds. list_all is_ascii_digit ds ≡ true)
tells = record {
  empty = refl;
  parts = λ c cs h. let k = both (is_ascii_digit c) (list_all is_ascii_digit cs) h in (digit_range c k.0, k.1);
  more = λ c cs k h. together (is_ascii_digit c) (list_all is_ascii_digit cs) (range_digit c k) h;
}

own : IsNumeralModel (λ ds. list_all is_ascii_digit ds ≡ true) (digits_value 10)
own = numerals_by_value (λ ds. list_all is_ascii_digit ds ≡ true) tells

-- the first of them are digits too
first_digits : (ds : List ℕ) (i : ℕ) → list_all is_ascii_digit ds ≡ true → list_all is_ascii_digit (take i ds) ≡ true
first_digits ds zero h = refl
first_digits [] (suc i) h = refl
first_digits (c ∷ cs) (suc i) h =
    let k = both (is_ascii_digit c) (list_all is_ascii_digit cs) h in
    together (is_ascii_digit c) (list_all is_ascii_digit (take i cs)) k.0 (first_digits cs i k.1)

-- the first of at most ten digits write a number below ten to the tenth
pub value_bound : (ds : List ℕ) (i : ℕ) → list_all is_ascii_digit ds ≡ true → length ds ≤ 10 → digits_value 10 (take i ds) < 10_000_000_000
value_bound ds i h few = digits_value_short own (take i ds) 10 (first_digits ds i h) (omega (arith, length-take i ds))

-- each of them is a digit
pub digit_at : (ds : List ℕ) (i : ℕ) → list_all is_ascii_digit ds ≡ true → i < length ds → IsInRange 48 57 (get_or ds i 0)
digit_at [] i h inside = absurd (omega arith)
digit_at (c ∷ cs) zero h inside = digit_range c (both (is_ascii_digit c) (list_all is_ascii_digit cs) h).0
digit_at (c ∷ cs) (suc i) h inside = digit_at cs i (both (is_ascii_digit c) (list_all is_ascii_digit cs) h).1 (omega arith)

-- one more digit
value_after_more : (n : ℕ) (ds : List ℕ) (c : ℕ) → digits_value_after 10 n (ds ++ c ∷ []) ≡ digits_value_after 10 n ds * 10 + digit_value c
value_after_more n [] c = refl
value_after_more n (d ∷ ds) c = value_after_more (n * 10 + digit_value d) ds c

pub value_more : (ds : List ℕ) (i : ℕ) → list_all is_ascii_digit ds ≡ true → i < length ds
    → digits_value 10 (take (i + 1) ds) ≡ digits_value 10 (take i ds) * 10 + (get_or ds i 0 - 48)
value_more ds i h inside =
    let k = digit_at ds i h inside in
    ap (digits_value 10) (take_more ds i 0 inside) ∙ value_after_more 0 (take i ds) (get_or ds i 0)
    ∙ ap (λ (n : ℕ). digits_value 10 (take i ds) * 10 + n) (omega (arith, digit_value_digit (get_or ds i 0) k))
