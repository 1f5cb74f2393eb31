use Rattle.jb_link.specs.IdLists.{id_place}
use Rattle.jb_link.proofs.OrderLemmas.{hash_order_total, same_ids}
use Rattle.jb_link.proofs.SearchLemmas.{part_among}
use Rattle.jb_link.proofs.id_lists.part_with.Goals as goal

pub returns : goal.returns
returns c =
    part_among hash_order_total same_ids (id_place c.args.kind c.args.loaded.now) c.args.numbers.now.items c.args.id.now c.args.from 4294967295 _ _ c.requires.from
    c.place_of-start.ensures c.place_of-end.ensures
