use Rattle.jb_area.proofs.CallLemmas.{has_begun, meets, meets_not}
use Rattle.jb_area.proofs.area.OpenArea.post.Goals as goal

pub done-requires : goal.done-requires
done-requires g c =
    let has = c.requires.rests in
    record { begun = has_begun g.D.Disk.device c.args.self.now c.begin_post.new.self has.texts c.args.user.now c.args.moment _ c.begin_post.result _ c.begin_post.ensures.begins c.in-Ok.is has.rests }

pub returns-in-Ok-clause-meets : goal.returns-in-Ok-clause-meets
returns-in-Ok-clause-meets g c = meets g.D.Disk.device c.args.self.now c.begin_post.new.self c.done.new.self c.args.user.now c.args.moment _ c.begin_post.result _ c.done.result c.begin_post.ensures.begins c.in-Ok.is c.done.ensures

pub returns-in-Err-clause-meets : goal.returns-in-Err-clause-meets
returns-in-Err-clause-meets g c = meets_not g.D.Disk.device c.args.self.now c.begin_post.new.self c.args.user.now c.args.moment _ c.begin_post.result c.in-Err.error c.begin_post.ensures.begins c.in-Err.is
