use Rattle.std.proofs.Common.{◌≡◌, ◌+◌, ◌-◌, ◌≤◌, None, drop, length}
use Rattle.jb_host.specs.Wire.{Wire}
use Rattle.jb_page.specs.Pagers.{HasPager}
use Rattle.jb_session.specs.Exchanges.{AreOf, NodeState, node_with}
use Rattle.jb_session.specs.Served.{Stands}
use Rattle.jb_session.proofs.session.take.Given as goal

abbrev pub invariant-loop-at : goal.invariant-loop-at
invariant-loop-at g l =
    (l.at ≤ length l.piece)
    × (AreOf l.areas l.passes × HasPager l.pages (g.T.Speaker.reach l.board) l.pager)
    × g.T.Speaker.hands_out l.board l.talk None
    × ((g.T.Speaker.posture l.talk).taken ≡ (g.T.Speaker.posture l.fn.talk).taken + l.at)
    × ((old : Wire) (from : NodeState)
    → Stands g.T.Speaker.user_of g.T.Speaker.has_talked l.board old from (g.L.Link.wire l.fn.link) l.piece l.fn.talk None (node_with (g.C.Clock.readings l.fn.clock) l.fn.passes l.fn.pager)
    → Stands g.T.Speaker.user_of g.T.Speaker.has_talked l.board old from (g.L.Link.wire l.link) (drop l.at l.piece) l.talk None (node_with (g.C.Clock.readings l.clock) l.passes l.pager))

abbrev pub decreases-loop-at : goal.decreases-loop-at
decreases-loop-at g l = length l.piece - l.at
