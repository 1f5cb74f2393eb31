use Rattle.std.proofs.Common.{sym, subst}
use Rattle.crossbeam_queue.specs.Passes.{view}
use Rattle.jb_page.proofs.Keeps.{IsOne, merges}
use Rattle.jb_page.proofs.hand.PageQueue.join.Goals as goal

pub absorb-requires-clause-rule : goal.absorb-requires-clause-rule
absorb-requires-clause-rule c = let other = c.into_pass.result in let is = c.into_pass.ensures in
    merges c.args.hand.now.pass.id (view c.args.hand.now.pass) other.id (view other) c.requires.some (subst (λ p. IsOne (view p)) (sym is) c.requires.one)
