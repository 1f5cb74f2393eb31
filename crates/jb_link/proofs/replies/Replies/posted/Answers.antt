use Rattle.jb_link.proofs.IndexLemmas.{ids_before, last_number, pairs_before}
use Rattle.jb_link.proofs.replies.Replies.posted.Goals as goal

pub put-requires-clause-but : goal.put-requires-clause-but
put-requires-clause-but c =
    ids_before _ _ _ _ _ c.requires.index.more (last_number _ _ _ c.requires.index.more c.as_slice.ensures) (rw (← c.self.view_is) at c.requires.index.index).ids

pub put-requires-2-clause-but : goal.put-requires-2-clause-but
put-requires-2-clause-but c =
    ids_before _ _ _ _ _ c.requires.index.more (last_number _ _ _ c.requires.index.more c.as_slice.ensures) (rw (← c.self.view_is) at c.requires.index.index).answers

pub put-requires-3-clause-but : goal.put-requires-3-clause-but
put-requires-3-clause-but c =
    pairs_before _ _ _ _ c.requires.index.more (last_number _ _ _ c.requires.index.more c.as_slice.ensures) (rw (← c.self.view_is) at c.requires.index.index).kept
