use Rattle.std.proofs.Common.{sym, ◌∙◌}
use Rattle.jb_link.proofs.IdLemmas.{kept_among}
use Rattle.jb_link.proofs.others.Others.keep.Goals as goal

pub returns-in_ok-insert : goal.returns-in_ok-insert
returns-in_ok-insert c =
    kept_among c.args.self.now.numbers c.insert.new.self c.args.id.now c.hash_of.result c.args.number c.hash_of.ensures
    (sym c.number_of.ensures ∙ c.if-number_of-eq0.true) c.in_ok-insert.ensures.updates.1 c.in_ok-insert.ensures.updates.3
