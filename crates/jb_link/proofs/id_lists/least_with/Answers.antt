use Rattle.jb_link.proofs.IdListLemmas.{least_from_next}
use Rattle.jb_link.proofs.id_lists.least_with.Goals as goal

pub returns : goal.returns
returns c = least_from_next c.args.kind c.args.loaded.now c.args.id.now _ c.next_with.ensures
