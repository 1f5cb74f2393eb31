use Rattle.std.proofs.Common.{◌≡◌, ◌++◌, length}
use Rattle.jb_msgid.specs.Address.{quotes_doubled}
use Rattle.jb_msgid.proofs.address.unquoted.Given as goal

abbrev pub invariant-loop-byte : goal.invariant-loop-byte
invariant-loop-byte l = l.text ≡ quotes_doubled l.bytes ++ l.rest

abbrev pub decreases-loop-byte : goal.decreases-loop-byte
decreases-loop-byte l = length l.rest
