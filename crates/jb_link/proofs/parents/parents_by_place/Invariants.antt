use Rattle.std.proofs.Common.{take}
use Rattle.jb_link.specs.Ids.{HasLowest, IsSettled, number_of}
use Rattle.jb_link.specs.Parents.{AreParents}
use Rattle.jb_state.specs.LiveSlots.{linkables_from}
use Rattle.jb_link.proofs.parents.parents_by_place.Given as goal

abbrev pub invariant-loop-place : goal.invariant-loop-place
invariant-loop-place l = record {
  settled : IsSettled l.ids;
  ids : HasLowest (number_of l.base l.slots l.ids) (linkables_from l.base (take l.place l.slots));
  parents : AreParents (linkables_from l.base l.slots) l.base l.place l.parents.items;
}
