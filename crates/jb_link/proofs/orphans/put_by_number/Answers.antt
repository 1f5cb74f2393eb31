use Rattle.std.proofs.Common.{map}
use Rattle.std.proofs.lemmas.Result.{on_ok_weaker}
use Rattle.jb_link.specs.Part.{part}
use Rattle.jb_link.proofs.OrphanLemmas.{orphans_by_number, unheired}
use Rattle.jb_link.proofs.orphans.put_by_number.Goals as goal

pub returns : goal.returns
returns c =
    on_ok_weaker c.put_kept.result (λ is. record {
      more = map unheired (part c.part_with-from.result.0 c.part_with-from.result.1 c.args.pairs.now.items);
      orphans = orphans_by_number c.args.loaded.now c.args.number c.args.pairs.now.items c.part_with-from.result.0 c.part_with-from.result.1
          c.requires.base c.requires.live c.requires.numbers c.requires.list c.part_with-from.ensures;
      is = is;
    }) c.put_kept.ensures
