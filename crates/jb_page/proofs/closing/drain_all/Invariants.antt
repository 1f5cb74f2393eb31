use Rattle.std.proofs.Common.{◌≡◌, ◌≤◌, ◌+◌, ◌*◌, ◌-◌, ℕ, length, slice_index_or}
use Rattle.std.specs.Prelude.{vec_capacity}
use Rattle.jb_page.specs.declared.hand.Hand.{Hand}
use Rattle.jb_page.specs.Gathered.{DrainedSoFar}
use Rattle.jb_page.proofs.closing.drain_all.Given as goal

abbrev pub invariant-loop-k : goal.invariant-loop-k
invariant-loop-k g l = record {
  count : length l.whole ≡ length l.queues;
  same : (j : ℕ) (h : Hand) → l.k ≤ j → slice_index_or l.whole j h ≡ slice_index_or l.fn.whole j h;
  drained : DrainedSoFar l.k l.fn.whole l.fn.left.items l.left.items;
  room : length l.left.items + 64 * (length l.queues - l.k) ≤ vec_capacity l.left;
}
