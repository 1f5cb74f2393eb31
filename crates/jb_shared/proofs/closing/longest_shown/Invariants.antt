use Rattle.std.proofs.Common.{◌≡◌, All, take}
use mathlib.Core.List.{IsPrefix}
use Rattle.jb_publish.specs.Fronts.{book_of, known_list}
use Rattle.jb_shared.proofs.closing.longest_shown.Given as goal

abbrev pub invariant-loop-pass : goal.invariant-loop-pass
invariant-loop-pass l = record {
  pair : book_of l.longest ≡ book_of l.origin;
  begins : All (λ pass. IsPrefix pass.known.shown (known_list l.longest)) (take l.pass-index l.passes);
}
