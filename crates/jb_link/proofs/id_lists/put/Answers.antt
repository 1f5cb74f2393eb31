use Rattle.std.proofs.Common.{sym, ◌∙◌, ap}
use Rattle.jb_link.specs.Ids.{lent}
use Rattle.jb_link.proofs.IdListLemmas.{id_put}
use Rattle.jb_link.proofs.id_lists.put.Goals as goal

pub returns-clause-list : goal.returns-clause-list
returns-clause-list c =
    rw c.insert.ensures.items
    (id_put _ _ _ c.in-Some.id.now _ _ c.requires.but (sym c.id_at.ensures ∙ ap lent c.in-Some.is) c.place_of-at.ensures)
