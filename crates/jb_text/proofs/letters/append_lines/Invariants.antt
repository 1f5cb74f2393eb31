use Rattle.std.proofs.Common.{◌≡◌, ◌++◌, length, flat_map}
use Rattle.jb_text.specs.Letter.{line, lines_of}
use Rattle.jb_text.proofs.letters.append_lines.Given as goal

abbrev pub invariant-loop-rest : goal.invariant-loop-rest
invariant-loop-rest l = l.text ++ flat_map line (lines_of l.rest) ≡ l.initial.text ++ flat_map line (lines_of l.initial.rest)

abbrev pub decreases-loop-rest : goal.decreases-loop-rest
decreases-loop-rest l = length l.rest
