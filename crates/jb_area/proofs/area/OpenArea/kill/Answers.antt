use Rattle.std.proofs.Common.{Ok, refl}
use Rattle.jb_area.proofs.CallLemmas.{has_begun, meets, store_fault}
use Rattle.jb_area.proofs.area.OpenArea.kill.Goals as goal

pub done-requires : goal.done-requires
done-requires g c =
    let has = c.requires.rests in
    record { begun = has_begun g.D.Disk.device c.args.self.now c.begin_kill.new.self has.texts c.args.user.now 0 _ (Ok tt) tt (c.begin_kill.ensures 0) refl has.rests }

pub returns-clause-meets : goal.returns-clause-meets
returns-clause-meets g c = λ moment.
    meets g.D.Disk.device c.args.self.now c.begin_kill.new.self c.done.new.self c.args.user.now moment _ (Ok tt) tt c.done.result (c.begin_kill.ensures moment) refl c.done.ensures

pub returns-clause-fault : goal.returns-clause-fault
returns-clause-fault g c = store_fault c.done.result c.done.ensures.fault
