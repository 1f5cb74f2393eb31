use Rattle.jb_link.proofs.IndexLemmas.{ids_killed, pairs_killed}
use Rattle.jb_link.proofs.replies.Replies.killed.Goals as goal

pub returns-clause-index : goal.returns-clause-index
returns-clause-index c = λ header_at. record {
  ids = ids_killed _ _ _ header_at _ c.requires.number c.take_out.ensures.list;
  answers = ids_killed _ _ _ header_at _ c.requires.number c.take_out-2.ensures.list;
  kept = pairs_killed _ _ header_at _ _ c.requires.number (rw (← c.self.view_is) at c.requires.index).kept c.take_out-3.ensures.list;
}
