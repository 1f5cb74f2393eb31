use Rattle.std.proofs.Common.{arith, sym, ◌∙◌}
use Rattle.std.proofs.Math.ListN.{length-set}
use Rattle.jb_marks.proofs.MarkLemmas.{room_for_new}
use Rattle.jb_marks.proofs.OrderLemmas.{ordered-set}
use Rattle.jb_marks.proofs.SetLaws.{others-after_set, own-after_set}
use Rattle.jb_marks.proofs.marks.Marks.set.Goals as goal
use Rattle.jb_state.proofs.MarkLaws.{with_mark-first, with_mark-none}

pub invariant_of-self : goal.invariant_of-self
invariant_of-self c =
    let count = length-set c.self.inside.items.items c.in-Some.place c.args.mark in
    record {
      ordered = ordered-set c.args.mark _ _ _ c.self.invariant.ordered (rw c.deref.ensures.value at c.in-Some.ensures);
      few = omega (arith, count, c.self.invariant.few);
      marks_room = omega (arith, count, c.self.invariant.marks_room);
      index_room = omega (arith, count, c.self.invariant.index_room);
    }

pub put_last-requires-clause-room : goal.put_last-requires-clause-room
put_last-requires-clause-room c = rw (← c.self.view_is) (room_for_new c.args.mark _ (rw (← c.self.view_is) at c.requires) (rw c.deref.ensures.value at c.in-None.ensures))

pub returns-in-Some-clause-marks : goal.returns-in-Some-clause-marks
returns-in-Some-clause-marks c = rw (← c.self.view_is) (sym (with_mark-first c.args.mark _ _ (rw c.deref.ensures.value at c.in-Some.ensures)))

pub returns-in-Some-clause-own : goal.returns-in-Some-clause-own
returns-in-Some-clause-own c = own-after_set c.args.mark _ _ (returns-in-Some-clause-marks c)

pub returns-in-Some-clause-others : goal.returns-in-Some-clause-others
returns-in-Some-clause-others c = others-after_set c.args.mark _ _ (returns-in-Some-clause-marks c)

pub returns-in-None-clause-marks : goal.returns-in-None-clause-marks
returns-in-None-clause-marks c =
    c.put_last.ensures.marks ∙ rw (← c.self.view_is) (sym (with_mark-none c.args.mark _ (rw c.deref.ensures.value at c.in-None.ensures)))

pub returns-in-None-clause-own : goal.returns-in-None-clause-own
returns-in-None-clause-own c = own-after_set c.args.mark _ _ (returns-in-None-clause-marks c)

pub returns-in-None-clause-others : goal.returns-in-None-clause-others
returns-in-None-clause-others c = others-after_set c.args.mark _ _ (returns-in-None-clause-marks c)
