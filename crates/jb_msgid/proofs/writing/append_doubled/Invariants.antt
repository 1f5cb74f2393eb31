use Rattle.std.proofs.Common.{◌≡◌, ◌++◌, take}
use Rattle.jb_msgid.specs.Address.{quotes_doubled}
use Rattle.jb_msgid.proofs.writing.append_doubled.Given as goal

abbrev pub invariant-loop-byte : goal.invariant-loop-byte
invariant-loop-byte l = l.text ≡ l.initial.text ++ quotes_doubled (take l.byte-index l.bytes)
