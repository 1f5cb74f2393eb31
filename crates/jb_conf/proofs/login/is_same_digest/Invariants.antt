use Rattle.std.proofs.Common.{◌≡◌, ◌==◌, bytes_eq, take}
use Rattle.jb_conf.proofs.login.is_same_digest.Given as goal

abbrev pub invariant-loop-at : goal.invariant-loop-at
invariant-loop-at l = (l.differing == 0) ≡ bytes_eq (take l.at l.one) (take l.at l.other)
