use Rattle.std.proofs.Common.{◌≤◌, ◌-◌, length, vec_capacity}
use Rattle.jb_run.specs.Rows.{AreRoomy}
use Rattle.jb_run.proofs.dealing.roomy_lists.Given as goal

-- those that are made are roomy, and there is room for the others
abbrev pub invariant-loop-alloc : goal.invariant-loop-alloc
invariant-loop-alloc g l = record {
  few : length l.made.items ≤ l.lists;
  fits : l.lists ≤ vec_capacity l.made;
  made : AreRoomy l.made.items (length l.made.items) l.count;
}

abbrev pub decreases-loop-alloc : goal.decreases-loop-alloc
decreases-loop-alloc g l = l.lists - length l.made.items
