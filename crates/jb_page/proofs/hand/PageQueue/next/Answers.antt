use Rattle.crossbeam_queue.specs.Passes.{view}
use Rattle.jb_page.proofs.Keeps.{grows_next, grows_taker}
use Rattle.jb_page.proofs.hand.PageQueue.next.Goals as goal

pub another-pass-requires-clause-rule : goal.another-pass-requires-clause-rule
another-pass-requires-clause-rule c = let h = c.args.hand.now in let t = c.requires.takes c.if-takes.true in
    grows_taker h.pass.id (view h.pass) c.requires.made.0 c.requires.made.1 t.0 t.1

pub another-pass-requires-2-clause-rule : goal.another-pass-requires-2-clause-rule
another-pass-requires-2-clause-rule c = let h = c.args.hand.now in grows_next h.pass.id (view h.pass) c.requires.made.0 c.requires.made.1
