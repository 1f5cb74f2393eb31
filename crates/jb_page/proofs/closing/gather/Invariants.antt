use Rattle.std.proofs.Common.{◌≡◌, List, length, ◌++◌}
use Rattle.std.specs.Prelude.{All}
use Rattle.jb_page.specs.Pagers.{PagerView}
use Rattle.jb_page.specs.Hands.{AreOfQueues, IsPagerOn}
use Rattle.jb_page.proofs.Gathers.{Knows}
use Rattle.jb_page.proofs.closing.gather.Given as goal

abbrev pub invariant-loop-pager : goal.invariant-loop-pager
invariant-loop-pager l = record {
  left : All (IsPagerOn l.queues) l.pagers.items;
  of : AreOfQueues l.queues l.whole.items;
  taken : (rest : List PagerView) × (l.fn.pagers.items ≡ l.pagers.items ++ rest) × Knows (length l.queues) l.whole.items rest;
}

abbrev pub decreases-loop-pager : goal.decreases-loop-pager
decreases-loop-pager l = goal.left-loop-pager l
