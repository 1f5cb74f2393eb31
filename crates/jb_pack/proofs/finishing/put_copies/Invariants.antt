use Rattle.std.proofs.Common.{drop}
use Rattle.jb_pack.proofs.PuttingLemmas.{IsPutting}
use Rattle.jb_pack.proofs.finishing.put_copies.Given as goal

abbrev pub invariant-loop-place : goal.invariant-loop-place
invariant-loop-place l = IsPutting l.loaded l.copies l.initial.redo l.redo l.run l.end (drop l.place l.slots)
