use Rattle.std.proofs.Common.{◌≡◌, ◌≤◌, ◌+◌, length, take}
use Rattle.jb_tiered.proofs.tiered.Tiered.copy.Given as goal

abbrev pub invariant-loop-item : goal.invariant-loop-item
invariant-loop-item g l = (l.list.items ≡ take l.item-index l.items) × (length l.items ≤ l.list.room + l.item-index)
