use Rattle.jb_index.proofs.index.Index.unread_count.Goals as goal

pub count_wanted-requires : goal.count_wanted-requires
count_wanted-requires c = record { rising = c.self.invariant.rising; counted = c.self.invariant.counted }
