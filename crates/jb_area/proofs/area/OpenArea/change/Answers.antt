use Rattle.std.proofs.Common.{ap}
use Rattle.jb_decide.specs.Coming.{Coming}
use Rattle.jb_area.proofs.StageLemmas.{becomes_is, fits_is}
use Rattle.jb_area.proofs.area.OpenArea.change.Goals as goal

pub returns-clause-becomes : goal.returns-clause-becomes
returns-clause-becomes g c = λ texts decided coming begun.
    ap (λ (one : Coming). one.to) (becomes_is g.D.Disk.device c.args.self.now texts decided coming begun c.in-Begun.reply c.in-Begun.pending c.in-Begun.is)

pub returns-clause-fits : goal.returns-clause-fits
returns-clause-fits g c =
    let has = c.requires.begun in
    fits_is g.D.Disk.device c.args.self.now has.texts has.reply has.coming has.begun c.in-Begun.reply c.in-Begun.pending c.in-Begun.is
