use Rattle.std.proofs.Common.{◌≡◌, flat_map, take}
use Rattle.jb_telnet.specs.Units.{doubled}
use Rattle.jb_telnet.proofs.encoder.encode.Given as goal

abbrev pub invariant-loop-byte : goal.invariant-loop-byte
invariant-loop-byte l = l.sent.items ≡ flat_map doubled (take l.byte-index l.bytes)
