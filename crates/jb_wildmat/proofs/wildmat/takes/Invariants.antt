use Rattle.std.proofs.Common.{◌≡◌, false, map}
use Rattle.std.specs.Prelude.{unwrap_or}
use Rattle.jb_wildmat.specs.Wildmats.{last_word}
use Rattle.jb_wildmat.proofs.wildmat.takes.Given as goal

abbrev pub invariant-loop-item : goal.invariant-loop-item
invariant-loop-item l = l.taken ≡ unwrap_or (last_word (map (λ item. item.now) l.yielded) l.name) false
