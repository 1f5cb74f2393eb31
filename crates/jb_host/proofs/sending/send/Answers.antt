use Rattle.std.proofs.Common.{◌≡◌, ◌-◌, ◌≤◌, length, take, drop, ◌∙◌, arith}
use Rattle.std.proofs.lemmas.Result.{err_from_is_err_and}
use Rattle.std.proofs.lemmas.List.{places}
use Rattle.jb_host.proofs.Wires.{sends_more, take_then, begins_take}
use Rattle.jb_host.proofs.sending.send.Goals as goal

pub returns-in_err-at-clause-err : goal.returns-in_err-at-clause-err
returns-in_err-at-clause-err g c =
    let p = err_from_is_err_and c.from_residual.result c.from_residual.ensures.1 in
    rw p.1 (take c.loop-at.at c.args.bytes.now, begins_take c.loop-at.at c.args.bytes.now c.loop-at-test.true, rw c.in_err-at.ensures.err c.loop-at.invariant.1)

pub loop-at-preserved : goal.loop-at-preserved
loop-at-preserved g c =
    let within = c.in_ok-at.ensures.within in
    let len : length (take (length c.args.bytes.now - c.loop-at.at) (drop c.loop-at.at c.args.bytes.now)) ≡ length c.args.bytes.now - c.loop-at.at = grind (arith, places) in
    let small : c.in_ok-at.field-0 ≤ length c.args.bytes.now - c.loop-at.at = omega (arith, within, len) in (
      omega (arith, within, len),
      rw (← take_then c.loop-at.at c.in_ok-at.field-0 c.args.bytes.now small) (sends_more _ _ _ _ _ c.loop-at.invariant.1 c.in_ok-at.ensures.sent),
      c.in_ok-at.ensures.to_come ∙ c.loop-at.invariant.2,
      c.in_ok-at.ensures.ends ∙ c.loop-at.invariant.3,
      c.in_ok-at.ensures.quiet ∙ c.loop-at.invariant.4,
      c.in_ok-at.ensures.fine ∙ c.loop-at.invariant.5,
    )
