use Rattle.std.proofs.Common.{◌≡◌, [], ◌++◌, List, length}
use Rattle.std.specs.Prelude.{vec_capacity}
use Rattle.crossbeam_queue.specs.Passes.{view}
use Rattle.jb_page.specs.declared.page.Page.{Page}
use Rattle.jb_page.specs.Rows.{after_taken}
use Rattle.jb_page.proofs.hand.PageQueue.drain.Given as goal

abbrev pub invariant-loop-done : goal.invariant-loop-done
invariant-loop-done g l = record {
  queue : l.hand.pass.table_id ≡ l.fn.hand.pass.table_id;
  empty : l.hand.pass.me.1 ≡ [];
  taken : (xs : List Page) × (length xs ≡ l.done) × (l.left.items ≡ l.fn.left.items ++ xs) × (view l.hand.pass ≡ after_taken (view l.fn.hand.pass) xs);
  room : vec_capacity l.left ≡ vec_capacity l.fn.left;
}
