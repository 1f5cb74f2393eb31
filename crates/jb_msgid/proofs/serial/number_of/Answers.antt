use Rattle.std.proofs.Common.{◌≡◌, ◌<◌, ◌+◌, ◌*◌, ℕ, length, take, get_or, ap, sym, ◌∙◌, subst, arith}
use Rattle.std.specs.Char.{digit_value}
use Rattle.std.specs.Str.Parse.{AllDigits, digits_value}
use Rattle.std.proofs.lemmas.Int.Digits.{digits_more, digits_value_more}
use Rattle.jb_msgid.proofs.Serials.{first_wrong, too_long, leaves_room}
use Rattle.jb_msgid.proofs.serial.number_of.Goals as goal

pub returns-in_default : goal.returns-in_default
returns-in_default c =
    let kept = c.loop-place.invariant in
    first_wrong c.args.digits.now c.loop-place.place kept.within c.loop-place-test.true kept.each c.in_default.ensures.none

pub overflow_mul-number : goal.overflow_mul-number
overflow_mul-number c =
    let kept = c.loop-place.invariant in
    omega (arith, kept.value, leaves_room c.args.digits.now c.loop-place.place kept.within c.loop-place-test.true kept.each)

pub overflow_add-number : goal.overflow_add-number
overflow_add-number c =
    let kept = c.loop-place.invariant in
    omega (arith, kept.value, c.in-Some.ensures.within.1, leaves_room c.args.digits.now c.loop-place.place kept.within c.loop-place-test.true kept.each)

pub loop-place-preserved : goal.loop-place-preserved
loop-place-preserved c =
    let digits = c.args.digits.now in
    let place = c.loop-place.place in
    let digit = c.in-Some.digit in
    let kept = c.loop-place.invariant in
    let here : place < length digits = c.in-Some.ensures.within.0 in
    let is : digit ≡ digit_value (get_or digits place 0) = c.in-Some.ensures.value in
    let small : digit_value (get_or digits place 0) < 16 = subst (λ (d : ℕ). d < 16) is c.in-Some.ensures.within.1 in
    record {
      within = omega arith;
      each = digits_more 16 digits place here kept.each small;
      value =
          ap (λ (n : ℕ). n * 16 + digit) kept.value
          ∙ ap (λ (d : ℕ). digits_value 16 (take place digits) * 16 + d) is
          ∙ sym (digits_value_more 16 digits place here);
    }

pub returns-then-digits-gt8 : goal.returns-then-digits-gt8
returns-then-digits-gt8 c =
    let all : c.loop-place.place ≡ 8 = omega arith in
    too_long c.args.digits.now c.if-digits-gt8.true (subst (λ (n : ℕ). AllDigits 16 (take n c.args.digits.now)) all c.loop-place.invariant.each)
