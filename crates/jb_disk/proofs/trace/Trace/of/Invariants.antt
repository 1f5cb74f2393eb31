use Rattle.std.proofs.Common.{take}
use Rattle.jb_disk.specs.Trace.{HasFollowed}
use Rattle.jb_disk.proofs.trace.Trace.of.Given as goal

abbrev pub invariant-loop-call : goal.invariant-loop-call
invariant-loop-call l = HasFollowed l.file l.first (take l.call-index l.calls) l.trace
