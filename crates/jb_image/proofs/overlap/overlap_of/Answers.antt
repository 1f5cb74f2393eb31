use Rattle.std.proofs.Common.{List, IfOk, IfNone, AllPairs, ◌∙◌, subst}
use Rattle.jb_image.specs.declared.extent.Extent.{Extent}
use Rattle.jb_image.specs.Extents.{AreDisjoint}
use Rattle.jb_image.proofs.overlap.overlap_of.Goals as goal

pub returns-clause-none : goal.returns-clause-none
returns-clause-none c =
    subst (λ (l : List Extent). IfOk c.first_overlap.result (λ some. IfNone some (AllPairs AreDisjoint l)))
    (c.as_slice.ensures.value ∙ c.in_ok-extents.ensures) c.first_overlap.ensures.none
