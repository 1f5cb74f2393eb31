use Rattle.std.proofs.Common.{◌≡◌, ◌++◌, length}
use Rattle.jb_news.specs.Body.{body_text}
use Rattle.jb_news.proofs.body.append_body.Given as goal

abbrev pub invariant-loop-rest : goal.invariant-loop-rest
invariant-loop-rest l = l.text ++ body_text l.rest ≡ l.initial.text ++ body_text l.initial.rest

abbrev pub decreases-loop-rest : goal.decreases-loop-rest
decreases-loop-rest l = length l.rest
