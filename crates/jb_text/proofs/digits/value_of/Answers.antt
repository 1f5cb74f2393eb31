use Rattle.std.proofs.Common.{arith}
use Rattle.jb_text.proofs.DigitLemmas.{digit_at, value_bound, value_more}
use Rattle.jb_text.proofs.digits.value_of.Goals as goal

pub overflow_mul-value : goal.overflow_mul-value
overflow_mul-value c =
    omega (arith, c.loop-digit.invariant, value_bound c.args.digits.now c.loop-digit.digit-index c.requires.digits c.requires.few)

pub overflow_add-value : goal.overflow_add-value
overflow_add-value c =
    let h = c.from.ensures in
    omega (
      arith,
      c.loop-digit.invariant,
      c.from.ensures,
      value_bound c.args.digits.now c.loop-digit.digit-index c.requires.digits c.requires.few,
      digit_at c.args.digits.now c.loop-digit.digit-index c.requires.digits c.loop-digit-test.true,
    )

pub loop-digit-preserved : goal.loop-digit-preserved
loop-digit-preserved c =
    omega (arith, c.loop-digit.invariant, c.from.ensures, value_more c.args.digits.now c.loop-digit.digit-index c.requires.digits c.loop-digit-test.true)
