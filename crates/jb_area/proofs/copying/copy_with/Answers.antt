use Rattle.std.proofs.Common.{refl}
use Rattle.jb_area.proofs.BegunLemmas.{durable_unless, has_unless}
use Rattle.jb_area.proofs.Outcomes.{if_ok_then2}
use Rattle.jb_area.proofs.copying.copy_with.Goals as goal

pub returns-clause-copied : goal.returns-clause-copied
returns-clause-copied g c =
    if_ok_then2 c.some-more.result _ _ _ c.some-more.ensures.more c.some-more.ensures.copies (λ more says copies. record { shadow = c.some-more.new.self; kept = refl; copies = copies; says = says })

pub returns-clause-has : goal.returns-clause-has
returns-clause-has g c =
    has_unless c.some-more.result c.args.packer c.some-more.new.self (g.D.Disk.device c.args.disk.now) (g.D.Disk.device c.some-more.new.disk) c.some-more.ensures.has c.some-more.ensures.unchanged c.requires.has

pub returns-clause-durable : goal.returns-clause-durable
returns-clause-durable g c =
    durable_unless c.some-more.result c.args.packer c.some-more.new.self (g.D.Disk.device c.args.disk.now) (g.D.Disk.device c.some-more.new.disk) c.some-more.ensures.durable c.some-more.ensures.unchanged
