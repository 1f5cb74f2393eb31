use Rattle.jb_wildmat.proofs.AlongLemmas.{behind_star, left_behind_sign}
use Rattle.jb_wildmat.proofs.pattern.go_along.Goals as goal

pub returns-then-sign-eq42 : goal.returns-then-sign-eq42
returns-then-sign-eq42 c = behind_star c.in-Some.sign.now c.in-Some.later.now c.loop-sign.invariant c.in-Some.ensures.cases.0 c.if-sign-eq42.true

pub loop-sign-preserved : goal.loop-sign-preserved
loop-sign-preserved c =
    let taken = c.in-Some-behind.ensures in
    left_behind_sign c.in-Some.sign.now taken.0 c.in-Some.later.now c.in-Some-behind.rest.now c.loop-sign.invariant c.in-Some.ensures.cases.0 taken.1 c.if-sign-eq42.false taken.2
