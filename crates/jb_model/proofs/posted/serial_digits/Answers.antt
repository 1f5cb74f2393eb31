use Rattle.std.proofs.Common.{refl, ◌≡◌, ◌/◌, ◌%◌, ap, ◌∙◌, arith}
use Rattle.std.specs.Char.{digit_char}
use Rattle.jb_model.proofs.posted.serial_digits.Goals as goal

pub returns : goal.returns
returns c =
    let n = c.args.serial in
    let first : c.digit.result ≡ digit_char (n / 16 / 16 / 16 / 16 / 16 / 16 / 16 % 16) =
    let same : n / 268435456 ≡ n / 16 / 16 / 16 / 16 / 16 / 16 / 16 % 16 = omega arith in c.digit.ensures ∙ ap digit_char same in
    let second : c.digit-2.result ≡ digit_char (n / 16 / 16 / 16 / 16 / 16 / 16 % 16) =
    let same : n / 16777216 % 16 ≡ n / 16 / 16 / 16 / 16 / 16 / 16 % 16 = omega arith in c.digit-2.ensures ∙ ap digit_char same in
    let third : c.digit-3.result ≡ digit_char (n / 16 / 16 / 16 / 16 / 16 % 16) =
    let same : n / 1048576 % 16 ≡ n / 16 / 16 / 16 / 16 / 16 % 16 = omega arith in c.digit-3.ensures ∙ ap digit_char same in
    let fourth : c.digit-4.result ≡ digit_char (n / 16 / 16 / 16 / 16 % 16) =
    let same : n / 65536 % 16 ≡ n / 16 / 16 / 16 / 16 % 16 = omega arith in c.digit-4.ensures ∙ ap digit_char same in
    let fifth : c.digit-5.result ≡ digit_char (n / 16 / 16 / 16 % 16) =
    let same : n / 4096 % 16 ≡ n / 16 / 16 / 16 % 16 = omega arith in c.digit-5.ensures ∙ ap digit_char same in
    let sixth : c.digit-6.result ≡ digit_char (n / 16 / 16 % 16) =
    let same : n / 256 % 16 ≡ n / 16 / 16 % 16 = omega arith in c.digit-6.ensures ∙ ap digit_char same in
    rw (first, second, third, fourth, fifth, sixth, c.digit-7.ensures, c.digit-8.ensures) refl
