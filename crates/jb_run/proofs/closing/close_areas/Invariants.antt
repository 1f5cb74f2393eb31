use Rattle.std.proofs.Common.{◌≤◌, length, take}
use Rattle.jb_run.specs.All.{AreShared}
use Rattle.jb_run.specs.Rows.{lists_of}
use Rattle.jb_run.proofs.CloseLemmas.{AreFirst, ClosesFrom}
use Rattle.jb_run.proofs.closing.close_areas.Given as goal

-- those from some place on are closed, and their passes are gone
abbrev pub invariant-loop-doubtful : goal.invariant-loop-doubtful
invariant-loop-doubtful g l = record {
  whole : AreShared l.shared (length l.shared.nodes.items) (length l.shared.areas.items);
  within : length l.shared.areas.items ≤ length l.initial.shared.areas.items;
  passes : AreFirst (length l.shared.areas.items) (lists_of l.initial.shared.nodes.items) (lists_of l.shared.nodes.items);
  closes : ClosesFrom (length l.shared.areas.items) (take (length l.initial.shared.areas.items) l.areas) (lists_of l.initial.shared.nodes.items)
      (g.H.Host.desk l.initial.host) (g.H.Host.desk l.host) l.is_doubtful;
}

abbrev pub decreases-loop-doubtful : goal.decreases-loop-doubtful
decreases-loop-doubtful g l = length l.shared.areas.items
