use Rattle.std.proofs.Common.{◌≡◌, ◌++◌, length}
use Rattle.jb_news.specs.Charsets.{encoded}
use Rattle.jb_news.proofs.charset.append_encoded.Given as goal

abbrev pub invariant-loop-rest : goal.invariant-loop-rest
invariant-loop-rest l = l.text ++ encoded l.fold l.charset l.rest ≡ l.initial.text ++ encoded l.fold l.charset l.initial.rest

abbrev pub decreases-loop-rest : goal.decreases-loop-rest
decreases-loop-rest l = length l.rest
