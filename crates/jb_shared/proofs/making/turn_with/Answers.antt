use Rattle.std.proofs.Common.{ap, ◌∙◌}
use Rattle.jb_publish.specs.Marks.{book_at}
use Rattle.jb_shared.specs.Keeping.{history_mark}
use Rattle.jb_shared.proofs.MakingLemmas.{shared_made}
use Rattle.jb_shared.proofs.making.turn_with.Goals as goal

pub returns-in-Ok-clause-ok : goal.returns-in-Ok-clause-ok
returns-in-Ok-clause-ok g c =
    let shown = g.D.Disk.device in
    let mark = history_mark shown c.args.state in
    shared_made shown c.args.state.area c.args.nodes (record { turn = c.in-Ok.turn; origin = c.tell-origin.result }) mark c.join-passes.result.items c.in-Ok.ensures.count.0
    (c.join-passes.ensures.count ∙ c.in-Ok.ensures.count.1) (c.join-passes.ensures.fresh mark c.in-Ok.ensures.fresh c.requires.fresh)
    (c.tell-origin.ensures.pair ∙ ap (λ m. book_at m) c.requires.kept.index.pair) c.requires.opening
