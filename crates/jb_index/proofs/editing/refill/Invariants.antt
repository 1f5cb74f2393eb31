use Rattle.std.proofs.Common.{◌≡◌, ◌+◌, length, take}
use Rattle.jb_index.proofs.editing.refill.Given as goal

abbrev pub invariant-loop-place : goal.invariant-loop-place
invariant-loop-place l = record {
  items : l.summaries.items ≡ take l.place l.from.items;
  places : length l.summaries.items + l.summaries.room ≡ length l.fn.summaries.items + l.fn.summaries.room;
}
