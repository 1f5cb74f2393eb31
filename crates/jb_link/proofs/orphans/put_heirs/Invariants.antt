use Rattle.std.proofs.Common.{◌≡◌, ◌≤◌, ◌++◌, map}
use Rattle.jb_link.specs.Part.{part}
use Rattle.jb_link.proofs.OrphanLemmas.{heired}
use Rattle.jb_link.proofs.orphans.put_heirs.Given as goal

abbrev pub invariant-loop-at : goal.invariant-loop-at
invariant-loop-at l = record {
  start : l.from ≤ l.at;
  so_far : l.orphans.items ≡ l.fn.orphans.items ++ map (heired l.heir) (part l.from l.at l.numbers.items);
}
