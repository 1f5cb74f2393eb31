use Rattle.std.proofs.Common.{sym, ◌∙◌, ap, arith}
use Rattle.jb_link.specs.Ids.{lent}
use Rattle.jb_link.proofs.IdListLemmas.{id_taken}
use Rattle.jb_link.proofs.id_lists.take_out.Goals as goal

pub remove-requires : goal.remove-requires
remove-requires c =
    let taken = id_taken _ _ _ c.in-Some.id.now _ _ c.requires (sym c.id_at.ensures ∙ ap lent c.in-Some.is) c.place_of-at.ensures in
    omega (arith, taken.0)

pub returns-clause-list : goal.returns-clause-list
returns-clause-list c =
    rw c.remove.ensures.items
    (id_taken _ _ _ c.in-Some.id.now _ _ c.requires (sym c.id_at.ensures ∙ ap lent c.in-Some.is) c.place_of-at.ensures).1
