use Rattle.std.proofs.Common.{◌≡◌, ◌≤◌, length}
use Rattle.std.specs.Prelude.{vec_capacity}
use Rattle.jb_page.specs.Hands.{AreLast}
use Rattle.jb_page.proofs.pages.new_queues.Given as goal

abbrev pub invariant-loop-made : goal.invariant-loop-made
invariant-loop-made l = record {
  count : length l.queues.items ≡ l.made;
  last : AreLast l.queues.items 1 l.hands.items;
  room : (l.nodes ≤ vec_capacity l.queues) × (l.nodes ≤ vec_capacity l.hands);
}
