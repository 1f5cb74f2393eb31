use Rattle.std.proofs.Common.{◌+◌}
use Rattle.jb_link.specs.Keys.{AreKeysBelow}
use Rattle.jb_link.proofs.keys.keys_of.Given as goal

abbrev pub invariant-loop-place : goal.invariant-loop-place
invariant-loop-place l = AreKeysBelow l.kind l.loaded l.keying.wide (l.loaded.base + l.place) l.keys.items
