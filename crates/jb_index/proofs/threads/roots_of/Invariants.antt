use Rattle.std.proofs.Common.{◌≡◌, map, take}
use Rattle.jb_index.specs.Thread.{root_in}
use Rattle.jb_index.proofs.threads.roots_of.Given as goal

abbrev pub invariant-loop-place : goal.invariant-loop-place
invariant-loop-place l = l.roots.items ≡ map (λ one. root_in l.summaries.items one.number) (take l.place l.summaries.items)
