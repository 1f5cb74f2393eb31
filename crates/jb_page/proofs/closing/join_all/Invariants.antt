use Rattle.std.proofs.Common.{◌≡◌, ◌≤◌, ◌<◌, ℕ, List, ◌++◌, length, slice_index_or}
use Rattle.jb_page.specs.declared.hand.Hand.{Hand}
use Rattle.jb_page.specs.Rows.{joined}
use Rattle.jb_page.specs.Seats.{view_in}
use Rattle.jb_page.specs.Hands.{AreOfQueues}
use Rattle.jb_page.specs.Gathered.{hand_view}
use Rattle.jb_page.proofs.closing.join_all.Given as goal

abbrev pub invariant-loop-hand : goal.invariant-loop-hand
invariant-loop-hand l = record {
  of : AreOfQueues l.queues l.whole;
  taken : (rest : List Hand) × (l.fn.hands.items ≡ l.hands.items ++ rest);
  few : length l.hands.items ≤ length l.queues;
  waiting : (j : ℕ) (h : Hand) → j < length l.hands.items → slice_index_or l.whole j h ≡ slice_index_or l.fn.whole j h;
  done : (j : ℕ) (h : Hand) → length l.hands.items ≤ j → j < length l.queues → view_in (slice_index_or l.whole j h) ≡ joined (view_in (slice_index_or l.fn.whole j h)) (hand_view j l.fn.hands.items);
}

abbrev pub decreases-loop-hand : goal.decreases-loop-hand
decreases-loop-hand l = goal.left-loop-hand l
