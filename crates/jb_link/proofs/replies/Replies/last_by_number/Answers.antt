use Rattle.std.proofs.Common.{arith, get_or}
use Rattle.std.proofs.lemmas.List.Elements.{Contains-get_or}
use Rattle.jb_link.proofs.FoundLemmas.{last_by_number, live_from_base}
use Rattle.jb_link.proofs.replies.Replies.last_by_number.Goals as goal

pub last_with-requires-clause-numbers : goal.last_with-requires-clause-numbers
last_with-requires-clause-numbers c = λ k d within.
    let pair = (rw (← c.self.view_is) at c.requires.index).kept.each (get_or c.self.inside.kept.items k d).0 (get_or c.self.inside.kept.items k d).1 (Contains-get_or c.self.inside.kept.items k d within) in
    omega (arith, pair.there, c.requires.numbers)

pub returns : goal.returns
returns c =
    let from = live_from_base c.args.loaded.now c.args.parent c.requires.live in
    rw c.unwrap_or.ensures
    (last_by_number c.args.loaded.now c.args.parent c.self.inside.kept.items c.last_with.result (omega (arith, from, c.requires.base)) c.requires.live
    (rw (← c.self.view_is) at c.requires.index).kept c.last_with.ensures)
