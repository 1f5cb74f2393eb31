use Rattle.std.proofs.Common.{refl, sym, subst}
use Rattle.crossbeam_queue.specs.Passes.{view}
use Rattle.jb_page.specs.Rows.{head_row, row_with_none}
use Rattle.jb_page.proofs.Keeps.{IsOne, pops, accounts, records, has_one}
use Rattle.jb_page.proofs.hand.PageQueue.get.Goals as goal

pub pop_as-requires-clause-rule : goal.pop_as-requires-clause-rule
pop_as-requires-clause-rule g c = let h = c.args.hand.now in (pops h.pass.id (view h.pass) (has_one (view h.pass) c.requires.one) c.requires.takes, accounts h.pass.id (view h.pass) c.requires.takes)

pub another-requires-clause-rule : goal.another-requires-clause-rule
another-requires-clause-rule g c = let now = view c.pop_as.new.pass in
    records c.pop_as.new.pass.id now (row_with_none (head_row now.rows)) (subst IsOne (sym c.in-None.ensures.rule.0) c.requires.one) (refl, refl, refl)
