use Rattle.std.proofs.Common.{◌≡◌, ◌≤◌, ◌+◌, length}
use Rattle.std.specs.Prelude.{vec_capacity}
use Rattle.jb_page.specs.Hands.{AreLast}
use Rattle.jb_page.proofs.Begins.{AreNewOn}
use Rattle.jb_page.proofs.pager.Pages.new.Given as goal

abbrev pub invariant-loop-number : goal.invariant-loop-number
invariant-loop-number l = record {
  last : AreLast l.queues.items l.number l.hands.items;
  counted : length l.queues.items ≡ l.nodes;
  count : length l.pagers.items + 1 ≡ l.number;
  room : l.nodes ≤ vec_capacity l.pagers;
  each : AreNewOn l.queues.items l.pagers.items;
}
