use Rattle.std.proofs.Common.{◌≡◌, length}
use Rattle.jb_session.specs.Exchanges.{AreOf}
use Rattle.jb_server.specs.Backups.{HasTargets}
use Rattle.jb_server.specs.Workers.{packer_of}
use Rattle.jb_server.proofs.RingRuns.{IsPacking}
use Rattle.jb_server.proofs.packer.serve_bell.Given as goal

abbrev pub invariant-loop-ring : goal.invariant-loop-ring
invariant-loop-ring g l =
    (goal.iterator-loop-ring g).can_next l._ring-iterator × (goal.iterator-loop-ring g).is_finite l._ring-iterator
    × AreOf l.areas l.slot.passes.items
    × HasTargets l.slot.targets.items l.slot.backups.items
    × (length l.slot.targets.items ≡ length l.fn.slot.targets.items)
    × (l.slot.node ≡ l.fn.slot.node)
    × (l.slot.user ≡ l.fn.slot.user)
    × IsPacking l.fn.slot.user (g.B.Bell.rings l.fn.slot.bell) (packer_of g.C.Clock.readings g.E.Disk.device l.fn.slot) l.fn.slot.packs
    (g.B.Bell.rings l.slot.bell) (packer_of g.C.Clock.readings g.E.Disk.device l.slot) l.slot.packs
