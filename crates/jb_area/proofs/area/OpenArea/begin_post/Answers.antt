use Rattle.std.proofs.Common.{◌≡◌, false, IfOk, IfErr, List, ℕ, None, Result, Some, refl, subst, sym}
use Rattle.jb_decide.specs.Draft.{draft_of, post_of}
use Rattle.jb_decide.specs.Decided.{IsDecided}
use Rattle.jb_decide.specs.Errors.{is_area_fault}
use Rattle.jb_decide.specs.Holds.{AreTexts}
use Rattle.jb_decide.specs.declared.decided.Decided.{Decided}
use Rattle.jb_decide.specs.declared.error.AreaError.{AreaError}
use Rattle.jb_area.proofs.Outcomes.{counts_none}
use Rattle.jb_area.proofs.StartLemmas.{begins, reads_itself}
use Rattle.jb_area.proofs.area.OpenArea.begin_post.Goals.{in-Ok, in-Err}
use Rattle.jb_area.proofs.area.OpenArea.begin_post.Goals as goal

pub returns-clause-begins : goal.returns-clause-begins
returns-clause-begins g c =
    let has = c.requires.rests in
    let area = c.args.self.now in
    let device = g.D.Disk.device area.disk in
    let Is : Decided → Type 0 =
    λ one. (texts : List ℕ) → AreTexts area.held texts device.contents → IsDecided area.rules area.held texts device.contents None c.decide_post.new.redo c.args.user.now c.args.moment (post_of (draft_of c.args.draft)) one in
    let is : IfOk c.match-decide_post.decided Is = elim c.match-decide_post.branch [
      | in-Ok w ↦ subst (λ (r : Result Decided AreaError). IfOk r Is) (sym w.decided-is) (λ texts are. w.in-Ok.ensures.decided texts device.contents are)
      | in-Err w ↦ subst (λ (r : Result Decided AreaError). IfOk r Is) (sym w.decided-is) tt
    ] in
    let none : IfErr c.match-decide_post.decided (λ error. is_area_fault error ≡ false) = elim c.match-decide_post.branch [
      | in-Ok w ↦ subst (λ (r : Result Decided AreaError). IfErr r (λ error. is_area_fault error ≡ false)) (sym w.decided-is) tt
      | in-Err w ↦ subst (λ (r : Result Decided AreaError). IfErr r (λ error. is_area_fault error ≡ false)) (sym w.decided-is) refl
    ] in
    begins g.D.Disk.device area c.start.new.self area.disk area.redo (Some c.decide_post.new.redo) c.start.ensures.disk c.start.ensures.rules c.start.ensures.held c.start.ensures.redo c.start.ensures.packer c.start.ensures.commits c.start.ensures.packs
    (reads_itself device) has.rests.kept.ruled.room c.match-decide_post.decided c.start.result c.args.user.now c.args.moment _ c.start.ensures.stage c.start.ensures.large c.start.ensures.answer is (counts_none is_area_fault device c.match-decide_post.decided none) has
