use Rattle.jb_area.proofs.CallLemmas.{has_begun, meets, meets_not}
use Rattle.jb_area.proofs.EditLemmas.{edits_alone}
use Rattle.jb_area.proofs.area.OpenArea.edit.Goals as goal

pub done-requires : goal.done-requires
done-requires g c =
    let has = c.requires.rests in
    record { begun = has_begun g.D.Disk.device c.args.self.now c.begin_edit.new.self has.texts c.args.user.now 0 _ c.begin_edit.result _ (c.begin_edit.ensures.begins 0) c.in-Ok.is has.rests }

pub returns-in-Ok-clause-meets : goal.returns-in-Ok-clause-meets
returns-in-Ok-clause-meets g c = λ moment. meets g.D.Disk.device c.args.self.now c.begin_edit.new.self c.done.new.self c.args.user.now moment _ c.begin_edit.result _ c.done.result (c.begin_edit.ensures.begins moment) c.in-Ok.is c.done.ensures

pub returns-in-Err-clause-meets : goal.returns-in-Err-clause-meets
returns-in-Err-clause-meets g c = λ moment. meets_not g.D.Disk.device c.args.self.now c.begin_edit.new.self c.args.user.now moment _ c.begin_edit.result c.in-Err.error (c.begin_edit.ensures.begins moment) c.in-Err.is

pub returns-in-Ok-clause-alone : goal.returns-in-Ok-clause-alone
returns-in-Ok-clause-alone g c = edits_alone g.D.Disk.device c.args.self.now c.done.new.self c.args.user.now 0 c.args.edit.number c.args.edit.subject.now c.args.edit.text.now c.done.result (returns-in-Ok-clause-meets g c 0)
