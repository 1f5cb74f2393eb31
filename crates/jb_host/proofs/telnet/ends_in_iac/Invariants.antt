use Rattle.std.proofs.Common.{◌≡◌, drop}
use Rattle.jb_host.specs.Telnet.{waits_behind}
use Rattle.jb_host.proofs.telnet.ends_in_iac.Given as goal

abbrev pub invariant-loop-byte : goal.invariant-loop-byte
invariant-loop-byte l = waits_behind l.does (drop l.byte-index l.bytes) ≡ waits_behind l.did l.bytes
