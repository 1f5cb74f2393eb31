use Rattle.std.proofs.Common.{◌≡◌, ◌≤◌, ◌∙◌, Err, ap, length, subst, sym}
use Rattle.std.specs.Option.{ForSome}
use Rattle.jb_limits.specs.declared.limits.TheConstants.{MOST_SLOTS, TEXTS_CEILING}
use Rattle.jb_disk.specs.declared.file.FileId.TheVariants.{Jdt}
use Rattle.jb_state.specs.Sound.{IsSound}
use Rattle.jb_state.specs.declared.loaded.Loaded.{Loaded}
use Rattle.jb_state.specs.Packed.{texts_size}
use Rattle.jb_pack.specs.declared.error.PackError.{PackError}
use Rattle.jb_pack.specs.declared.error.PackError.TheVariants as pack_error
use Rattle.jb_decide.proofs.DecidedLemmas.{sound_under}
use Rattle.jb_decide.specs.declared.error.AreaError.TheVariants.{StoreFault}
use Rattle.jb_area.specs.Calls.{StepsPack}
use Rattle.jb_area.specs.Copying.{HasCopiedSome}
use Rattle.jb_area.specs.declared.stage.Stage.{Stage}
use Rattle.jb_area.proofs.Outcomes.{err_gives}
use Rattle.jb_area.proofs.StepLemmas.{steps_done, steps_stopped, steps_wanting, unless_memory, unless_ok}
use Rattle.jb_area.proofs.area.OpenArea.copy.Goals as goal

pub copy_some-requires-clause-sound : goal.copy_some-requires-clause-sound
copy_some-requires-clause-sound g c =
    let has = c.requires.rests in
    subst (IsSound MOST_SLOTS) (sym c.loaded.ensures) (sound_under c.args.self.now.rules.slots MOST_SLOTS c.args.self.now.held has.rests.kept.ruled.few_slots has.rests.kept.ruled.sound)

pub copy_some-requires-clause-told : goal.copy_some-requires-clause-told
copy_some-requires-clause-told g c =
    let has = c.requires.rests in
    subst (λ (l : Loaded). ForSome (g.D.Disk.device c.args.self.now.disk).contents (λ files. length (files Jdt) ≡ l.texts_len)) (sym c.loaded.ensures)
    (λ files there. sym (has.rests.kept.settled.rests files there).holds.loads.texts_len)

pub copy_some-requires-clause-fits : goal.copy_some-requires-clause-fits
copy_some-requires-clause-fits g c = subst (λ (l : Loaded). texts_size l.slots ≤ TEXTS_CEILING) (sym c.loaded.ensures) c.requires.fits

pub copy_some-requires-clause-has : goal.copy_some-requires-clause-has
copy_some-requires-clause-has g c = let has = c.requires.rests in has.rests.kept.copies

pub returns-in-Ok-clause-steps : goal.returns-in-Ok-clause-steps
returns-in-Ok-clause-steps g c =
    steps_done g.D.Disk.device c.args.self.now c.copy_some.new.disk c.copy_some.new.kept c.copy_some.ensures.touches _
    (unless_ok c.copy_some.result _ _ c.in-Ok.is c.copy_some.ensures.durable) (unless_ok c.copy_some.result _ _ c.in-Ok.is c.copy_some.ensures.has) (record { quiet = c.in-Ok.ensures.faults.quiet; later = c.copy_some.ensures.faults.later; cause = tt })

pub returns-in-Ok-clause-copied : goal.returns-in-Ok-clause-copied
returns-in-Ok-clause-copied g c =
    subst (λ (l : Loaded). HasCopiedSome c.args.budget l.slots c.args.self.now.packer c.copy_some.new.kept c.in-Ok.more) c.loaded.ensures c.in-Ok.ensures.copied

pub returns-in-Err-StoreFault-clause-steps : goal.returns-in-Err-StoreFault-clause-steps
returns-in-Err-StoreFault-clause-steps g c =
    let is = c.in-Err-StoreFault.is ∙ ap (λ (e : PackError). Err e) c.in-Err-StoreFault.field-0-is in
    subst (λ (s : Stage). StepsPack g.D.Disk.device c.args.self.now (record c.args.self.now { disk = c.copy_some.new.disk; packer = c.copy_some.new.kept; stage = s }) (Err StoreFault)) (sym c.put_stage.ensures)
    (steps_stopped g.D.Disk.device c.args.self.now c.copy_some.new.disk c.copy_some.new.kept c.copy_some.ensures.touches
    (record { quiet = tt; later = c.copy_some.ensures.faults.later; cause = err_gives c.copy_some.result pack_error.StoreFault _ is c.copy_some.ensures.faults.cause }))

pub returns-in-Err-OutOfMemory-clause-steps : goal.returns-in-Err-OutOfMemory-clause-steps
returns-in-Err-OutOfMemory-clause-steps g c =
    let is = c.in-Err-OutOfMemory.is ∙ ap (λ (e : PackError). Err e) c.in-Err-OutOfMemory.field-0-is in
    steps_wanting g.D.Disk.device c.args.self.now c.copy_some.new.disk c.copy_some.new.kept c.copy_some.ensures.touches
    (unless_memory c.copy_some.result _ is c.copy_some.ensures.durable) (unless_memory c.copy_some.result _ is c.copy_some.ensures.has)
    (record { quiet = tt; later = c.copy_some.ensures.faults.later; cause = err_gives c.copy_some.result pack_error.OutOfMemory _ is c.copy_some.ensures.faults.cause })
