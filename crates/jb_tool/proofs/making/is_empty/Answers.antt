use Rattle.std.proofs.Common.{◌∙◌, sym, subst}
use Rattle.std.specs.Prelude.{Bool}
use Rattle.jb_tool.proofs.MakingLemmas.{found_empty}
use Rattle.jb_tool.specs.Making.{IsFoundEmpty}
use Rattle.jb_tool.proofs.making.is_empty.Goals as goal

pub returns-clause-found : goal.returns-clause-found
returns-clause-found g c = λ files is.
    subst (λ (b : Bool). IsFoundEmpty b files) (sym c.are_zero.ensures)
    (found_empty files c.in_ok-headers.headers c.in_ok-texts.texts c.in_ok-index.index c.in_ok-marks.marks
    (c.in_ok-headers.ensures.found files is)
    (c.in_ok-texts.ensures.found files (c.len.ensures.kept.contents ∙ is))
    (c.in_ok-index.ensures.found files (c.len-2.ensures.kept.contents ∙ c.len.ensures.kept.contents ∙ is))
    (c.in_ok-marks.ensures.found files (c.len-3.ensures.kept.contents ∙ c.len-2.ensures.kept.contents ∙ c.len.ensures.kept.contents ∙ is)))
