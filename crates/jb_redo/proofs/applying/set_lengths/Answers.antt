use Rattle.jb_disk.specs.declared.file.FileId.TheVariants.{Jhr, Jdt, Jdx, Jlr}
use Rattle.jb_disk.proofs.RunLemmas.{keeps-then}
use Rattle.jb_redo.specs.OnTheWay.{IsOnTheWay}
use Rattle.jb_redo.proofs.applying.set_lengths.Goals as goal

pub returns-in_err-set_one-2-clause-images : goal.returns-in_err-set_one-2-clause-images
returns-in_err-set_one-2-clause-images g c = λ lengths pieces start are.
    let device = g.D.Disk.device in
    let way = IsOnTheWay lengths pieces start in
    keeps-then way (device c.args.disk.now) (device c.set_one.new.disk) (device c.set_one-2.new.disk)
    (c.set_one.ensures.images lengths pieces start (are Jhr)) (c.set_one-2.ensures.images lengths pieces start (are Jdt))

pub returns-in_err-set_one-3-clause-images : goal.returns-in_err-set_one-3-clause-images
returns-in_err-set_one-3-clause-images g c = λ lengths pieces start are.
    let device = g.D.Disk.device in
    let way = IsOnTheWay lengths pieces start in
    keeps-then way (device c.args.disk.now) (device c.set_one-2.new.disk) (device c.set_one-3.new.disk)
    (keeps-then way (device c.args.disk.now) (device c.set_one.new.disk) (device c.set_one-2.new.disk)
    (c.set_one.ensures.images lengths pieces start (are Jhr)) (c.set_one-2.ensures.images lengths pieces start (are Jdt)))
    (c.set_one-3.ensures.images lengths pieces start (are Jdx))

pub returns-in_err-set_one-4-clause-images : goal.returns-in_err-set_one-4-clause-images
returns-in_err-set_one-4-clause-images g c = λ lengths pieces start are.
    let device = g.D.Disk.device in
    let way = IsOnTheWay lengths pieces start in
    keeps-then way (device c.args.disk.now) (device c.set_one-3.new.disk) (device c.set_one-4.new.disk)
    (keeps-then way (device c.args.disk.now) (device c.set_one-2.new.disk) (device c.set_one-3.new.disk)
    (keeps-then way (device c.args.disk.now) (device c.set_one.new.disk) (device c.set_one-2.new.disk)
    (c.set_one.ensures.images lengths pieces start (are Jhr)) (c.set_one-2.ensures.images lengths pieces start (are Jdt)))
    (c.set_one-3.ensures.images lengths pieces start (are Jdx)))
    (c.set_one-4.ensures.images lengths pieces start (are Jlr))

pub returns-clause-images : goal.returns-clause-images
returns-clause-images g c = λ lengths pieces start are.
    let device = g.D.Disk.device in
    let way = IsOnTheWay lengths pieces start in
    keeps-then way (device c.args.disk.now) (device c.set_one-3.new.disk) (device c.set_one-4.new.disk)
    (keeps-then way (device c.args.disk.now) (device c.set_one-2.new.disk) (device c.set_one-3.new.disk)
    (keeps-then way (device c.args.disk.now) (device c.set_one.new.disk) (device c.set_one-2.new.disk)
    (c.set_one.ensures.images lengths pieces start (are Jhr)) (c.set_one-2.ensures.images lengths pieces start (are Jdt)))
    (c.set_one-3.ensures.images lengths pieces start (are Jdx)))
    (c.set_one-4.ensures.images lengths pieces start (are Jlr))
