-- What is shown as it is, and what is shown part by part.
use Rattle.std.proofs.Common.{◌≡◌, ℕ, zero, suc, ◌+◌, ◌<◌, ◌-◌, ◌^◌, ◌%◌, ◌++◌, ◌∷◌, [], List, length, replicate, refl, ap, ◌∙◌, arith}
use Rattle.std.specs.Prelude.{decimal}
use Rattle.std.proofs.lemmas.Bool.Decides.{nat_tests}
use Rattle.std.proofs.lemmas.Fmt.{decimal_by_steps}
use Rattle.std.proofs.lemmas.List.{map-append}
use Rattle.jb_text.specs.Numbers.{right_in}
use Rattle.jb_text.specs.Shown.{shown, shown_byte}

-- a text is shown part by part
pub shown_more : (before now part first second : List ℕ) → now ≡ before ++ part → shown before ≡ first → shown part ≡ second → shown now ≡ first ++ second
shown_more before now part first second now_is before_is part_is =
    ap shown now_is ∙ map-append shown_byte before part ∙ ap (λ (l : List ℕ). l ++ shown part) before_is ∙ ap (λ (l : List ℕ). first ++ l) part_is

-- spaces are shown as they are
shown_spaces : (count : ℕ) → shown (replicate count 32) ≡ replicate count 32
shown_spaces zero = refl
shown_spaces (suc count) = ap (λ (l : List ℕ). 32 ∷ l) (shown_spaces count)

-- a digit is shown as it is
shown_digit : (digit : ℕ) → digit < 10 → shown_byte (48 + digit) ≡ 48 + digit
shown_digit digit h = grind (arith, nat_tests)

-- the digits of a number are shown as they are
shown_decimal : (n : ℕ) → n < 2 ^ 64 → shown (decimal n) ≡ decimal n
shown_decimal = decimal_by_steps (λ _ digits. shown digits ≡ digits)
    (λ n h. ap (λ (byte : ℕ). byte ∷ []) (shown_digit n h))
    (λ n digits h shows. let last : n % 10 < 10 = omega arith in
    shown_more digits (digits ++ (48 + n % 10) ∷ []) ((48 + n % 10) ∷ []) digits ((48 + n % 10) ∷ []) refl shows
    (ap (λ (byte : ℕ). byte ∷ []) (shown_digit (n % 10) last)))

-- a number in its column is shown as it is
pub shown_right_in : (width n : ℕ) → n < 2 ^ 64 → shown (right_in width n) ≡ right_in width n
shown_right_in width n h =
    let spaces = replicate (width - length (decimal n)) 32 in
    shown_more spaces (spaces ++ decimal n) (decimal n) spaces (decimal n) refl (shown_spaces (width - length (decimal n))) (shown_decimal n h)
