use Rattle.std.proofs.Common.{None, Ok, refl}
use Rattle.jb_decide.specs.declared.decided.Decided.{Decided}
use Rattle.jb_decide.specs.Errors.{is_area_fault}
use Rattle.jb_area.proofs.Outcomes.{counts_none}
use Rattle.jb_area.proofs.StartLemmas.{begins, reads_itself}
use Rattle.jb_area.proofs.area.OpenArea.begin_mark.Goals as goal

pub returns : goal.returns
returns g c = λ moment.
    let has = c.requires.rests in
    let area = c.args.self.now in
    let decided : Decided = c.decide_mark-decided.result in
    begins g.D.Disk.device area (record area { redo = c.decide_mark-decided.new.redo; stage = c.put_stage.new.place }) area.disk c.decide_mark-decided.new.redo None refl refl refl refl refl refl refl
    (reads_itself (g.D.Disk.device area.disk)) c.decide_mark-decided.ensures.room (Ok decided) (Ok tt) c.args.user.now moment _ c.put_stage.ensures has.rests.small refl
    (λ texts are. c.decide_mark-decided.ensures.decided moment texts (g.D.Disk.device area.disk).contents are) (counts_none is_area_fault (g.D.Disk.device area.disk) (Ok decided) tt) has
