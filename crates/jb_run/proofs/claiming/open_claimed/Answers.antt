use Rattle.std.proofs.Common.{ℕ, IfErr, IfOk, inl, inr, subst}
use Rattle.jb_disk.specs.Device.{Device}
use Rattle.jb_run.specs.AreasErrors.{RefusesDisk, refused_at}
use Rattle.jb_run.specs.Lives.{OpensOver}
use Rattle.jb_run.proofs.ClaimLemmas.{claimed, opens_over, refuses_claim, refuses_disk}
use Rattle.jb_run.proofs.claiming.open_claimed.Goals as goal

pub returns-in-Ok-clause-ok : goal.returns-in-Ok-clause-ok
returns-in-Ok-clause-ok g c =
    let shown = g.D.Disk.device in
    let mid = shown c.claim.new.disk in
    let opening = c.open_area.ensures in
    subst (λ (d : Device). IfOk c.open_area.result (OpensOver shown c.args.rules d))
    (claimed (shown c.args.disk) mid c.claim.ensures.kept c.in-Ok.ensures.cause.kept)
    (opens_over shown c.args.rules mid c.open_area.result opening.rules opening.rest opening.opened opening.recovered opening.faults.quiet opening.crash opening.firm opening.alike)

pub returns-in-Ok-clause-err : goal.returns-in-Ok-clause-err
returns-in-Ok-clause-err g c =
    let shown = g.D.Disk.device in
    let mid = shown c.claim.new.disk in
    let opening = c.open_area.ensures in
    subst (λ (d : Device). IfErr c.open_area.result (λ back. (place : ℕ) → RefusesDisk place c.args.rules.slots d (shown back.0) (refused_at place back.1)))
    (claimed (shown c.args.disk) mid c.claim.ensures.kept c.in-Ok.ensures.cause.kept)
    (refuses_disk shown c.args.rules mid c.open_area.result opening.refused opening.faults.cause opening.crash opening.firm opening.faults.later)

pub returns-in-Err-clause-err : goal.returns-in-Err-clause-err
returns-in-Err-clause-err g c = λ place.
    refuses_claim place c.args.rules.slots (g.D.Disk.device c.args.disk) (g.D.Disk.device c.claim.new.disk) c.claim.ensures.kept
    (elim c.in-Err.ensures.cause.failed [ inl rose ↦ rose | inr past ↦ absurd past ]) c.in-Err.ensures.cause.later
