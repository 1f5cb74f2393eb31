use Rattle.std.proofs.Common.{◌≡◌, ◌++◌, map, take}
use Rattle.jb_index.proofs.KillLemmas.{edit_for_orphan}
use Rattle.jb_index.proofs.kills.put_parents.Given as goal

abbrev pub invariant-loop-orphan : goal.invariant-loop-orphan
invariant-loop-orphan l = l.op ≡ l.fn.op ++ map edit_for_orphan (take l.orphan-index l.orphans)
