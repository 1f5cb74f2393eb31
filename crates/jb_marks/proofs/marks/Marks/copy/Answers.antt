use Rattle.std.proofs.Common.{arith}
use Rattle.jb_marks.proofs.marks.Marks.copy.Goals as goal

pub invariant_of-result : goal.invariant_of-result
invariant_of-result c = record {
  ordered = rw c.in_ok-items.ensures.items c.in_ok-index.ensures.ordered;
  few = omega (arith, c.in_ok-items.ensures.len);
  marks_room = omega arith;
  index_room = omega (arith, c.in_ok-items.ensures.len, c.in_ok-index.ensures.room);
}
