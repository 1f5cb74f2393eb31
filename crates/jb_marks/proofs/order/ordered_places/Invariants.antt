use Rattle.jb_marks.specs.Order.{AreBelow}
use Rattle.jb_marks.proofs.order.ordered_places.Given as goal

abbrev pub invariant-loop-place : goal.invariant-loop-place
invariant-loop-place l = AreBelow l.place l.order.items
