use Rattle.std.proofs.Common.{arith, ◌<◌}
use Rattle.std.proofs.lemmas.Bool.Decides.{nat_tests}
use Rattle.jb_marks.proofs.order.compare.Goals as goal

pub returns : goal.returns
returns c =
    let one_fits : c.pair_at.result.1 < 4294967296 = omega (arith, c.pair_at.type_inv) in
    let other_fits : c.pair_at-2.result.1 < 4294967296 = omega (arith, c.pair_at-2.type_inv) in
    let one : c.args.one < 4294967296 = omega arith in
    let other : c.args.other < 4294967296 = omega arith in
    rw (← c.pair_at.ensures, ← c.pair_at-2.ensures) (grind (arith, nat_tests, c.then.ensures, c.cmp.ensures, c.cmp-2.ensures))
