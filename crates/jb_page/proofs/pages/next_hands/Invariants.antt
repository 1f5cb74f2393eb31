use Rattle.std.proofs.Common.{◌≡◌, ◌≤◌, ◌<◌, ◌+◌, ℕ, length, slice_index_or, take}
use Rattle.std.specs.Prelude.{vec_capacity}
use Rattle.jb_page.specs.declared.hand.Hand.{Hand}
use Rattle.jb_page.specs.declared.hand.PageQueue.{PageQueue}
use Rattle.jb_page.specs.Seats.{view_in, queue_of, id_of}
use Rattle.jb_page.specs.Hands.{AreLast, fresh, settled}
use Rattle.jb_page.proofs.pages.next_hands.Given as goal

abbrev pub invariant-loop-k : goal.invariant-loop-k
invariant-loop-k l = record {
  count : length l.hands ≡ length l.queues;
  queues_are : (j : ℕ) (h : Hand) (m : PageQueue) → j < length l.queues → queue_of (slice_index_or l.hands j h) ≡ id_of (slice_index_or l.queues j m);
  done : (j : ℕ) (h : Hand) → j < l.k → view_in (slice_index_or l.hands j h) ≡ settled l.number j;
  left : (j : ℕ) (h : Hand) → l.k ≤ j → j < length l.queues → view_in (slice_index_or l.hands j h) ≡ fresh l.number j;
  next : AreLast (take l.k l.queues) (l.number + 1) l.all.items;
  room : length l.queues ≤ vec_capacity l.all;
}
