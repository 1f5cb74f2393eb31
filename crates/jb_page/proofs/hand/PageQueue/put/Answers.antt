use Rattle.std.proofs.Common.{refl, sym, subst}
use Rattle.crossbeam_queue.specs.Passes.{view}
use Rattle.jb_page.specs.Rows.{head_row, row_with_refusal}
use Rattle.jb_page.proofs.Keeps.{IsOne, pushes, records}
use Rattle.jb_page.proofs.hand.PageQueue.put.Goals as goal

pub push_as-requires-clause-rule : goal.push_as-requires-clause-rule
push_as-requires-clause-rule g c = let h = c.args.hand.now in (pushes _ h.pass.id (view h.pass) c.args.page c.requires.one c.requires.from, λ items views holds at. tt)

pub another-requires-clause-rule : goal.another-requires-clause-rule
another-requires-clause-rule g c = let now = view c.push_as.new.pass in
    records c.push_as.new.pass.id now (row_with_refusal (head_row now.rows)) (subst IsOne (sym c.in-Err.ensures.rule.1) c.requires.one) (refl, refl, refl)
