use Rattle.std.proofs.Common.{◌≡◌}
use Rattle.jb_page.specs.Pagers.{HasPager}
use Rattle.jb_session.specs.Exchanges.{AreOf, node_with}
use Rattle.jb_server.specs.Sessions.{ServedAs, reach_of}
use Rattle.jb_server.specs.Workers.{KeepsPager}
use Rattle.jb_server.proofs.SessionRuns.{IsServing}
use Rattle.jb_server.proofs.node.serve_callers.Given as goal

abbrev pub invariant-loop-call : goal.invariant-loop-call
invariant-loop-call g l =
    (goal.iterator-loop-call g).can_next l._call-iterator × (goal.iterator-loop-call g).is_finite l._call-iterator
    × AreOf l.areas l.slot.passes.items
    × HasPager l.pages (reach_of l.service l.board) l.slot.pager
    × KeepsPager l.fn.slot.pager l.slot.pager
    × (l.slot.node ≡ l.fn.slot.node)
    × IsServing (ServedAs l.service l.board) (g.R.Door.gate l.fn.slot.door) (node_with (g.C.Clock.readings l.fn.slot.clock) l.fn.slot.passes.items l.fn.slot.pager) l.fn.slot.tally
    (g.R.Door.gate l.slot.door) (node_with (g.C.Clock.readings l.slot.clock) l.slot.passes.items l.slot.pager) l.slot.tally
