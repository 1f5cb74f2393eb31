use Rattle.std.proofs.Common.{◌≡◌, ℕ, List}
use Rattle.jb_host.specs.Wire.{Wire}
use Rattle.jb_page.specs.Pagers.{HasPager}
use Rattle.jb_session.specs.Exchanges.{AreOf, NodeState, node_with}
use Rattle.jb_session.specs.Served.{Stands}
use Rattle.jb_session.proofs.Standing.{to_come}
use Rattle.jb_session.proofs.session.respond_all.Given as goal

abbrev pub invariant-loop-next : goal.invariant-loop-next
invariant-loop-next g l =
    (AreOf l.areas l.passes × HasPager l.pages (g.T.Speaker.reach l.board) l.pager)
    × g.T.Speaker.hands_out l.board l.talk l.next
    × ((g.T.Speaker.posture l.talk).taken ≡ (g.T.Speaker.posture l.fn.talk).taken)
    × ((old : Wire) (from : NodeState) (rest : List ℕ)
    → Stands g.T.Speaker.user_of g.T.Speaker.has_talked l.board old from (g.L.Link.wire l.fn.link) rest l.fn.talk l.fn.first (node_with (g.C.Clock.readings l.fn.clock) l.fn.passes l.fn.pager)
    → Stands g.T.Speaker.user_of g.T.Speaker.has_talked l.board old from (g.L.Link.wire l.link) rest l.talk l.next (node_with (g.C.Clock.readings l.clock) l.passes l.pager))

abbrev pub decreases-loop-next : goal.decreases-loop-next
decreases-loop-next g l = to_come (g.T.Speaker.posture l.talk) l.board l.next
