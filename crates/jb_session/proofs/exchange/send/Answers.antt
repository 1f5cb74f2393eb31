use Rattle.std.proofs.Common.{ℕ, arith, ap, length, length-take}
use Rattle.jb_session.proofs.exchange.send.Goals as goal

pub send-requires-clause-short : goal.send-requires-clause-short
send-requires-clause-short g c = omega (arith, ap length c.as_slice.ensures, length-take {A = ℕ}, c.if-prove.false)
