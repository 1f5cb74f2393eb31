use Rattle.std.proofs.Common.{sym, ◌∙◌}
use Rattle.jb_link.proofs.KeptLemmas.{not_some, pair_not_put, pair_put}
use Rattle.jb_link.proofs.kept.put.Goals as goal

pub returns-in_default-clause-list : goal.returns-in_default-clause-list
returns-in_default-clause-list c = pair_not_put _ _ _ c.requires.but (sym c.pair_at.ensures ∙ not_some _ c.in_default.not-Some)

pub returns-clause-list : goal.returns-clause-list
returns-clause-list c =
    rw c.insert.ensures.items
    (pair_put _ _ _ _ _ c.requires.but (sym c.pair_at.ensures ∙ c.in-Some.is) c.place_of-at.ensures)
