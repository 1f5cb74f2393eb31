use Rattle.std.proofs.Common.{sym, ◌∙◌}
use Rattle.jb_wildmat.proofs.EndLemmas.{some_end-whole}
use Rattle.jb_wildmat.specs.Wildmats.{pattern_takes}
use Rattle.jb_wildmat.proofs.pattern.pattern_takes.Goals as goal

pub returns-in-Taken-go_along : goal.returns-in-Taken-go_along
returns-in-Taken-go_along c =
    let rest = c.loop-later.rest in
    sym (some_end-whole (pattern_takes rest.pattern.now) rest.name.now c.in-Taken-go_along.ensures) ∙ c.loop-later.invariant
