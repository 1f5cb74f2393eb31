use Rattle.std.proofs.Common.{subst, sym, ◌∙◌}
use Rattle.jb_shared.specs.Backups.{BacksUp}
use Rattle.jb_shared.specs.Inside.{known_in}
use Rattle.jb_shared.specs.Passes.{Known}
use Rattle.jb_shared.proofs.BackingLemmas.{backs_not, backs_up, pass_known}
use Rattle.jb_shared.proofs.shared.SharedArea.backup.Goals as goal

pub returns-in-Err-clause-backs : goal.returns-in-Err-clause-backs
returns-in-Err-clause-backs g c =
    backs_not c.args.pass.now.known (g.E.Disk.device c.args.onto.now) (g.E.Disk.device c.begin.new.onto) c.in-Err.error c.in-Err.ensures.refused c.begin.ensures.crash c.in-Err.ensures.faults c.begin.ensures.alike

pub returns-clause-backs : goal.returns-clause-backs
returns-clause-backs g c =
    let before = g.E.Disk.device c.args.onto.now in
    let after = g.E.Disk.device c.back_up-parts.new.onto in
    let new = known_in c.back_up-parts.result.0 in
    let held = known_in c.in-Some.parts in
    subst (λ (k : Known). BacksUp k new before after c.back_up-parts.result.1) (sym (pass_known c.args.pass.now c.pass.inside.parts c.in-Some.parts c.pass.view_is (sym c.take.ensures.value ∙ c.in-Some.is)))
    (backs_up held new before (g.E.Disk.device c.begin.new.onto) after c.in-Ok.backing c.back_up-parts.result.1 c.in-Ok.ensures.empty c.begin.ensures.crash c.in-Ok.ensures.faults c.begin.ensures.alike c.back_up-parts.ensures.finishes)
