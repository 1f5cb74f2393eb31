use Rattle.std.proofs.Common.{ℕ, subst}
use Rattle.jb_area.specs.Area.{device_of, packs_of}
use Rattle.jb_shared.specs.Backing.{IsRenewed}
use Rattle.jb_shared.proofs.BackingLemmas.{copies_part}
use Rattle.jb_shared.proofs.backing.Backing.copy_some.Goals as goal

pub returns-clause-copies : goal.returns-clause-copies
returns-clause-copies g c = λ rest.
    let new = c.renew.new.self in
    copies_part c.args.end (packs_of c.args.area.now) new.copier (device_of g.D.Disk.device c.args.area.now).contents c.args.self.now (record new { copier = c.some.new.self }) (g.E.Disk.device c.args.onto.now).contents
    (g.E.Disk.device c.some.new.onto).contents c.some.result (subst (λ (n : ℕ). IsRenewed c.args.self.now n new.copier) c.packs.ensures c.renew.ensures.renewed) c.some.ensures.copies c.some.ensures.front
