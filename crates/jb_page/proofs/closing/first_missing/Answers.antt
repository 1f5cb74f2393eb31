use Rattle.std.proofs.Common.{arith, sym, subst}
use mathlib.Core.Logic.{dite}
use native.Mathlib.Decide.{ℕ_discrete}
use Rattle.jb_page.specs.Closing.{HasNumber}
use Rattle.jb_page.proofs.closing.first_missing.Goals as goal

pub returns-then-not-has_number : goal.returns-then-not-has_number
returns-then-not-has_number c = let low = c.loop-number.auto.number in let high = c.loop-number-test.true in
    (omega (arith, low), omega (arith, high), (λ p has is. let there = c.has_number.ensures.1 (p, has, is) in let no_ = c.if-not-has_number.true in absurd (cc (there, no_))), c.loop-number.invariant)

pub loop-number-preserved : goal.loop-number-preserved
loop-number-preserved c = λ m positive lt. dite (ℕ_discrete m c.loop-number.number) (λ e. subst (HasNumber c.args.pagers.now) (sym e) (c.has_number.ensures.0 c.if-not-has_number.false)) (λ ne. c.loop-number.invariant m positive (omega arith))
