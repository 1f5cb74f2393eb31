use Rattle.std.proofs.Common.{◌≡◌, ◌≤◌, take}
use Rattle.std.specs.Prelude.{vec_capacity}
use Rattle.jb_marks.proofs.order.refill.Given as goal

abbrev pub invariant-loop-item : goal.invariant-loop-item
invariant-loop-item g l = (l.list.items ≡ take l.item-index l.from) × (vec_capacity l.initial.list ≤ vec_capacity l.list)
