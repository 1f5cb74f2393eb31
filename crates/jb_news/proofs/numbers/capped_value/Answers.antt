use Rattle.std.proofs.Common.{arith}
use Rattle.jb_text.proofs.DigitLemmas.{digit_at, value_more}
use Rattle.jb_news.proofs.numbers.capped_value.Goals as goal

pub loop-digit-preserved : goal.loop-digit-preserved
loop-digit-preserved c =
    omega (
      arith,
      c.loop-digit.invariant,
      c.from.ensures,
      c.min-value.ensures,
      value_more c.args.digits.now c.loop-digit.digit-index c.requires c.loop-digit-test.true,
      digit_at c.args.digits.now c.loop-digit.digit-index c.requires c.loop-digit-test.true,
    )
