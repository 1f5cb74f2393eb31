use Rattle.std.proofs.Common.{arith, ◌<◌}
use Rattle.std.proofs.lemmas.Bool.Decides.{nat_tests}
use Rattle.jb_marks.proofs.order.is_before.Goals as goal

pub returns : goal.returns
returns c =
    let fits : c.pair_at.result.1 < 4294967296 = omega (arith, c.pair_at.type_inv) in
    let place : c.args.place < 4294967296 = omega arith in
    let asked : c.args.user_id < 4294967296 = omega arith in
    rw (← c.pair_at.ensures) (grind (arith, nat_tests, c.lt.ensures))
