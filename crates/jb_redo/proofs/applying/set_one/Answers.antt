use Rattle.std.proofs.Common.{◌∙◌, sym}
use Rattle.jb_redo.proofs.CopyLemmas.{resize_keeps}
use Rattle.jb_redo.proofs.applying.set_one.Goals as goal

pub returns-clause-images : goal.returns-clause-images
returns-clause-images g c = λ lengths pieces start is.
    resize_keeps c.args.file c.get-len.result (g.D.Disk.device c.args.disk.now) (g.D.Disk.device c.set_len.new.self) c.set_len.result (g.met.D.Disk.told c.args.disk.now) (g.met.D.Disk.told c.set_len.new.self) c.set_len.ensures.changed
    lengths pieces start (is ∙ sym c.get-len.ensures)
