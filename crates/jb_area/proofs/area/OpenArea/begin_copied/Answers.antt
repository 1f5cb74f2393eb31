use Rattle.std.proofs.Common.{◌≡◌, ◌≢◌, ◌∙◌, ◌≤◌, false, IfOk, IfErr, List, ℕ, Option, Result, Some, refl, subst, sym}
use Rattle.std.specs.Option.{ForSome}
use Rattle.jb_limits.specs.declared.limits.TheConstants.{TEXTS_CEILING, MOST_SLOTS}
use Rattle.jb_model.specs.declared.command.Command.TheVariants.{Pack}
use Rattle.jb_state.specs.Packed.{texts_size}
use Rattle.jb_pack.specs.Shadow.{Shadow, left}
use Rattle.jb_decide.proofs.DecidedLemmas.{sound_under}
use Rattle.jb_decide.specs.Decided.{IsDecided}
use Rattle.jb_decide.specs.Errors.{is_area_fault}
use Rattle.jb_decide.specs.Holds.{AreTexts, HoldsCopies}
use Rattle.jb_decide.specs.declared.decided.Decided.{Decided}
use Rattle.jb_decide.specs.declared.error.AreaError.{AreaError}
use Rattle.jb_state.specs.declared.change.Change.TheVariants.{Nothing}
use Rattle.jb_area.proofs.Outcomes.{counts_none}
use Rattle.jb_area.proofs.StartLemmas.{begins_with, reads_itself}
use Rattle.jb_area.proofs.StepLemmas.{same_shadow, start_changes}
use Rattle.jb_area.proofs.area.OpenArea.begin_copied.Goals.{in-Ok, in-Err}
use Rattle.jb_area.proofs.area.OpenArea.begin_copied.Goals as goal

pub unreachable-requires : goal.unreachable-requires
unreachable-requires g c = let all = c.requires.all in c.in_default.not-Some all.shadow all.kept

pub decide_pack-requires-clause-sound : goal.decide_pack-requires-clause-sound
decide_pack-requires-clause-sound g c =
    let has = c.requires.rests in
    sound_under c.args.self.now.rules.slots MOST_SLOTS c.args.self.now.held has.rests.kept.ruled.few_slots has.rests.kept.ruled.sound

pub decide_pack-requires-clause-all : goal.decide_pack-requires-clause-all
decide_pack-requires-clause-all g c =
    let all = c.requires.all in
    subst (λ (s : Shadow). left s c.args.self.now.held.slots ≡ 0) (same_shadow all.shadow c.in-Some.packer (sym all.kept ∙ c.in-Some.is)) all.none

pub decide_pack-requires-clause-holds : goal.decide_pack-requires-clause-holds
decide_pack-requires-clause-holds g c = λ files there. let has = c.requires.rests in (has.rests.kept.settled.rests files there).holds.loads

pub decide_pack-requires-clause-has : goal.decide_pack-requires-clause-has
decide_pack-requires-clause-has g c =
    let has = c.requires.rests in
    subst (λ (k : Option Shadow). ForSome (g.D.Disk.device c.args.self.now.disk).contents (HoldsCopies k)) c.in-Some.is has.rests.kept.copies

pub returns-clause-begins : goal.returns-clause-begins
returns-clause-begins g c = λ user moment may.
    let has = c.requires.rests in
    let area = c.args.self.now in
    let device = g.D.Disk.device area.disk in
    let Is : Decided → Type 0 =
    λ one. (texts : List ℕ) → AreTexts area.held texts device.contents → IsDecided area.rules area.held texts device.contents area.packer c.decide_pack.new.redo user moment Pack one in
    let is : IfOk c.match-decide_pack.decided Is = elim c.match-decide_pack.branch [
      | in-Ok w ↦ subst (λ (r : Result Decided AreaError). IfOk r Is) (sym w.decided-is) (λ texts are.
          subst (λ (k : Option Shadow). IsDecided area.rules area.held texts device.contents k c.decide_pack.new.redo user moment Pack w.in-Ok.decided) (sym c.in-Some.is)
          (w.in-Ok.ensures.decided area.rules user moment texts device.contents (record { few_slots = has.rests.kept.ruled.few_slots; sound = has.rests.kept.ruled.sound }) may are))
      | in-Err w ↦ subst (λ (r : Result Decided AreaError). IfOk r Is) (sym w.decided-is) tt
    ] in
    let none : IfErr c.match-decide_pack.decided (λ error. is_area_fault error ≡ false) = elim c.match-decide_pack.branch [
      | in-Ok w ↦ subst (λ (r : Result Decided AreaError). IfErr r (λ error. is_area_fault error ≡ false)) (sym w.decided-is) tt
      | in-Err w ↦ subst (λ (r : Result Decided AreaError). IfErr r (λ error. is_area_fault error ≡ false)) (sym w.decided-is) refl
    ] in
    begins_with g.D.Disk.device area c.start.new.self area.disk area.redo (Some c.decide_pack.new.redo) c.start.ensures.disk c.start.ensures.rules c.start.ensures.held c.start.ensures.redo c.start.ensures.packer c.start.ensures.commits c.start.ensures.packs
    (reads_itself device) has.rests.kept.ruled.room c.match-decide_pack.decided c.start.result user moment _ c.start.ensures.stage c.start.ensures.large c.start.ensures.answer is (counts_none is_area_fault device c.match-decide_pack.decided none) has

pub returns-clause-changes : goal.returns-clause-changes
returns-clause-changes g c =
    let area = c.args.self.now in
    let Is : Decided → Type 0 = λ one. texts_size area.held.slots ≤ TEXTS_CEILING → one.pending.change ≢ Nothing in
    let is : IfOk c.match-decide_pack.decided Is = elim c.match-decide_pack.branch [
      | in-Ok w ↦ subst (λ (r : Result Decided AreaError). IfOk r Is) (sym w.decided-is) w.in-Ok.ensures.changes
      | in-Err w ↦ subst (λ (r : Result Decided AreaError). IfOk r Is) (sym w.decided-is) tt
    ] in
    start_changes area c.start.new.self (texts_size area.held.slots ≤ TEXTS_CEILING) c.match-decide_pack.decided c.start.result c.start.ensures.stage c.start.ensures.answer is
