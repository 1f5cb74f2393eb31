use Rattle.std.proofs.Common.{◌≤◌, None, Ok, ap, refl, subst, sym, ◌∙◌}
use Rattle.jb_limits.specs.declared.limits.TheConstants.{TEXTS_CEILING}
use Rattle.jb_state.specs.declared.loaded.Loaded.{Loaded}
use Rattle.jb_state.specs.Packed.{texts_size}
use Rattle.jb_decide.specs.Errors.{is_area_fault}
use Rattle.jb_decide.specs.declared.decided.Decided.{Decided}
use Rattle.jb_held.specs.Pending.{no_room}
use Rattle.jb_held.specs.declared.pending.Pending.{Pending}
use Rattle.jb_state.specs.declared.change.Change.TheVariants.{Nothing}
use Rattle.jb_area.specs.declared.stage.Stage.TheVariants.{Begun}
use Rattle.jb_area.proofs.Outcomes.{counts_none, on_ok_then}
use Rattle.jb_area.proofs.StartLemmas.{begins, reads_itself}
use Rattle.jb_area.proofs.StepLemmas.{begins_behind, begins_not, may_mid, rests_then}
use Rattle.jb_area.proofs.area.OpenArea.begin_pack.Goals as goal

pub returns-in-Some-clause-begins : goal.returns-in-Some-clause-begins
returns-in-Some-clause-begins g c = λ moment.
    let has = c.requires.rests in
    let area = c.args.self.now in
    let decided : Decided = record { reply = c.in-Some.reply; pending = record { change = Nothing; room = no_room } } in
    begins g.D.Disk.device area (record area { stage = c.put_stage.new.place }) area.disk area.redo None refl refl refl refl refl refl refl
    (reads_itself (g.D.Disk.device area.disk)) has.rests.kept.ruled.room (Ok decided) (Ok tt) c.args.user.now moment _ (c.put_stage.ensures ∙ ap (λ (p : Pending). Begun c.in-Some.reply p) c.nothing_pending.ensures) has.rests.small refl
    (λ texts are. c.refuse_pack.ensures.refused c.in-Some.reply c.in-Some.is moment texts (g.D.Disk.device area.disk).contents area.redo are) (counts_none is_area_fault (g.D.Disk.device area.disk) (Ok decided) tt) has

pub copy_all-requires-clause-fits : goal.copy_all-requires-clause-fits
copy_all-requires-clause-fits g c = (c.refuse_pack.ensures.may c.in-None.is).fits

pub begin_copied-requires-clause-rests : goal.begin_copied-requires-clause-rests
begin_copied-requires-clause-rests g c =
    rests_then g.D.Disk.device c.args.self.now c.copy_all.new.self c.copy_all.result _ c.in-Ok.is c.copy_all.ensures.steps c.requires.rests

pub begin_copied-requires-clause-all : goal.begin_copied-requires-clause-all
begin_copied-requires-clause-all g c = c.in-Ok.ensures.all

pub returns-in-Err-clause-begins : goal.returns-in-Err-clause-begins
returns-in-Err-clause-begins g c = λ moment.
    begins_not g.D.Disk.device c.args.self.now c.copy_all.new.self c.args.user.now moment c.copy_all.result c.in-Err.error c.in-Err.is c.copy_all.ensures.steps

pub returns-in-Ok-clause-begins : goal.returns-in-Ok-clause-begins
returns-in-Ok-clause-begins g c = λ moment.
    let may = c.refuse_pack.ensures.may c.in-None.is in
    let steps = c.copy_all.ensures.steps in
    begins_behind g.D.Disk.device c.args.self.now c.copy_all.new.self c.begin_copied.new.self c.args.user.now moment c.copy_all.result _ c.begin_copied.result c.in-Ok.is steps
    (c.begin_copied.ensures.begins c.args.user.now moment (may_mid c.args.self.now c.copy_all.new.self c.args.user.now steps.rules steps.loaded may))
    (on_ok_then c.begin_copied.result _ _ c.begin_copied.ensures.changes (λ changes none.
    changes (subst (λ (l : Loaded). texts_size l.slots ≤ TEXTS_CEILING) (sym steps.loaded) may.fits) none))
