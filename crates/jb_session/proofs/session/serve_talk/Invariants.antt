use Rattle.std.proofs.Common.{◌≡◌, ◌-◌, ◌≤◌, [], None}
use Rattle.jb_limits.specs.declared.limits.TheConstants.{MOST_SESSION_BYTES}
use Rattle.jb_page.specs.Pagers.{HasPager}
use Rattle.jb_session.specs.Exchanges.{AreOf, node_with}
use Rattle.jb_session.specs.Served.{Stands}
use Rattle.jb_session.proofs.session.serve_talk.Given as goal

abbrev pub invariant-loop-alloc : goal.invariant-loop-alloc
invariant-loop-alloc g l =
    (AreOf l.areas l.passes × HasPager l.pages (g.T.Speaker.reach l.board) l.pager)
    × g.T.Speaker.hands_out l.board l.talk None
    × ((g.T.Speaker.posture l.talk).owed ≡ [])
    × ((g.T.Speaker.posture l.talk).taken ≤ MOST_SESSION_BYTES)
    × Stands g.T.Speaker.user_of g.T.Speaker.has_talked l.board (g.L.Link.wire l.fn.link) (node_with (g.C.Clock.readings l.fn.clock) l.fn.passes l.fn.pager) (g.L.Link.wire l.link) [] l.talk None
    (node_with (g.C.Clock.readings l.clock) l.passes l.pager)

abbrev pub decreases-loop-alloc : goal.decreases-loop-alloc
decreases-loop-alloc g l = MOST_SESSION_BYTES - (g.T.Speaker.posture l.talk).taken
