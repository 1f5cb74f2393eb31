use Rattle.std.proofs.Common.{◌≡◌, ◌+◌, length}
use Rattle.jb_index.proofs.editing.clear.Given as goal

abbrev pub invariant-loop-summaries : goal.invariant-loop-summaries
invariant-loop-summaries l = length l.summaries.items + l.summaries.room ≡ length l.initial.summaries.items + l.initial.summaries.room

abbrev pub decreases-loop-summaries : goal.decreases-loop-summaries
decreases-loop-summaries l = length l.summaries.items
