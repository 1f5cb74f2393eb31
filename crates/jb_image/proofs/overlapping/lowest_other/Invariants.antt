use Rattle.std.proofs.Common.{AllPairs, ◌-◌, ◌<◌, ◌≤◌, length, take}
use Rattle.jb_image.specs.Extents.{AreDisjoint}
use Rattle.jb_image.proofs.overlapping.lowest_other.Given as goal

abbrev pub invariant-loop-shared : goal.invariant-loop-shared
invariant-loop-shared l = record {
  ordered : l.disjoint < l.shared;
  within : l.shared ≤ length l.extents;
  below : AllPairs AreDisjoint (take l.disjoint l.extents);
  above : AllPairs AreDisjoint (take l.shared l.extents) → ⊥;
}

abbrev pub decreases-loop-shared : goal.decreases-loop-shared
decreases-loop-shared l = l.shared - l.disjoint
