use Rattle.std.proofs.Common.{◌≡◌, ℕ, None, Option, Some, Result, Err, IfOk, ap, arith, refl, subst, sym, ◌∙◌}
use Rattle.std.proofs.lemmas.Bool.{false≢true}
use Rattle.jb_model.specs.declared.command.Command.TheVariants.{Pack}
use Rattle.jb_publish.specs.Accounts.{account_of}
use Rattle.jb_turn.specs.Seats.{front, resting_row, row_of}
use Rattle.jb_turn.specs.Steps.{given}
use Rattle.jb_shared.specs.Calls.{Asks}
use Rattle.jb_shared.specs.InTurn.{SeatRow}
use Rattle.jb_shared.specs.Inside.{known_in}
use Rattle.jb_shared.specs.Passes.{Known, refusing}
use Rattle.jb_shared.specs.Stepping.{HasTaken, LeavesAs, RunsStep}
use Rattle.jb_shared.specs.declared.error.SharedError.{SharedError}
use Rattle.jb_shared.specs.declared.refusal.Refusal.TheVariants.{Stepped}
use Rattle.jb_shared.proofs.CallLemmas.{given_none, known_after, still_told}
use Rattle.jb_shared.proofs.KeepingLemmas.{out_settled}
use Rattle.jb_shared.proofs.SettledLemmas.{begins_itself}
use Rattle.jb_shared.proofs.SteppingLemmas.{step_keeps, stepped_in, stopped_in}
use Rattle.jb_shared.proofs.shared.SharedArea.step.Goals as goal

pub leave_stepped-requires-clause-told : goal.leave_stepped-requires-clause-told
leave_stepped-requires-clause-told g c =
    let at = c.enter-seat in
    let taken = row_of at.result.seat in
    still_told taken taken (account_of at.result.reader) refl (begins_itself taken.front) at.ensures.told

pub returns-then-not-may_step-clause-steps : goal.returns-then-not-may_step-clause-steps
returns-then-not-may_step-clause-steps g c =
    let at = c.enter-seat in
    let account = account_of c.args.parts.reader in
    let row = resting_row c.leave_stepped.result.seat in
    subst (λ (k : Known). HasTaken (refusing (known_in c.args.parts) (Stepped None)) k)
    (sym (known_after row row account (account_of at.result.reader) (account_of c.leave_stepped.result.reader) at.ensures.account.0 c.leave_stepped.ensures.account.0 refl at.ensures.account.1 c.leave_stepped.ensures.account.1))
    (stepped_in account (resting_row c.args.parts.seat) (row_of at.result.seat) row (front at.result.seat) None at.ensures.took at.ensures.grows c.leave_stepped.ensures.row)

pub copy_part-held-requires : goal.copy_part-held-requires
copy_part-held-requires g c =
    let at = c.enter-seat in
    record {
      out = (
        record {
          holds = at.ensures.out.holds;
          knows = out_settled g.D.Disk.device at.result.held.state (row_of at.result.seat) at.ensures.out.knows (c.if-not-may_step.ensures.settled refl);
        },
        c.if-not-may_step.ensures.room refl,
      );
    }

pub leave_stepped-requires-in-Ok-clause-told : goal.leave_stepped-requires-in-Ok-clause-told
leave_stepped-requires-in-Ok-clause-told g c =
    let at = c.enter-seat in
    let taken = row_of at.result.seat in
    let new = row_of c.copy_part-held.new.seat in
    let keeps = step_keeps taken new c.args.user.now c.args.moment c.copy_part-held.result.1 c.copy_part-held.ensures.steps in
    still_told taken new (account_of at.result.reader) keeps.0 keeps.1 at.ensures.told

pub leave_stepped-requires-in-Ok-clause-left : goal.leave_stepped-requires-in-Ok-clause-left
leave_stepped-requires-in-Ok-clause-left g c =
    (subst (λ (r : Result (Option ℕ) SharedError). IfOk r (λ left. LeavesAs g.D.Disk.device c.copy_part-held.result.0 c.args.user.now left)) c.in-Ok.is c.copy_part-held.ensures.left)

pub leave-requires-clause-told : goal.leave-requires-clause-told
leave-requires-clause-told g c =
    let at = c.enter-seat in
    let taken = row_of at.result.seat in
    let new = row_of c.copy_part-held.new.seat in
    let keeps = step_keeps taken new c.args.user.now c.args.moment c.copy_part-held.result.1 c.copy_part-held.ensures.steps in
    still_told taken new (account_of at.result.reader) keeps.0 keeps.1 at.ensures.told

pub returns-in-Ok-clause-steps : goal.returns-in-Ok-clause-steps
returns-in-Ok-clause-steps g c =
    let at = c.enter-seat in
    let account = account_of c.args.parts.reader in
    let taken = row_of at.result.seat in
    let new = row_of c.copy_part-held.new.seat in
    let row = resting_row c.leave_stepped-in-Ok.result.seat in
    let is : new ≡ taken = subst (λ (r : Result (Option ℕ) SharedError). RunsStep taken new c.args.user.now c.args.moment r) c.in-Ok.is c.copy_part-held.ensures.steps in
    subst (λ (k : Known). HasTaken (refusing (known_in c.args.parts) (Stepped c.in-Ok.left)) k)
    (sym (known_after row row account (account_of at.result.reader) (account_of c.leave_stepped-in-Ok.result.reader) at.ensures.account.0 c.leave_stepped-in-Ok.ensures.account.0 refl at.ensures.account.1 c.leave_stepped-in-Ok.ensures.account.1))
    (stepped_in account (resting_row c.args.parts.seat) taken row (front at.result.seat) c.in-Ok.left at.ensures.took at.ensures.grows
    (c.leave_stepped-in-Ok.ensures.row ∙ ap (λ (r : SeatRow). given r (Some (Stepped c.in-Ok.left))) is))

pub returns-in-Err-clause-steps : goal.returns-in-Err-clause-steps
returns-in-Err-clause-steps g c =
    let at = c.enter-seat in
    let account = account_of c.args.parts.reader in
    let told = account_of at.result.reader in
    let list = front at.result.seat in
    let taken = row_of at.result.seat in
    let new = row_of c.copy_part-held.new.seat in
    let may = c.if-not-may_step.ensures in
    subst (λ (k : Known). Asks (known_in c.args.parts) k c.args.user.now c.args.moment Pack (Err c.in-Err.error))
    (sym (known_after new (resting_row c.leave.result.seat) account told (account_of c.leave.result.reader) at.ensures.account.0 c.leave.ensures.account.0 (c.leave.ensures.row ∙ given_none new) at.ensures.account.1 c.leave.ensures.account.1))
    (stopped_in g.D.Disk.device account (resting_row c.args.parts.seat) taken new list at.result.held.state c.copy_part-held.result.0.state c.args.user.now c.args.moment c.in-Err.error at.ensures.took
    at.ensures.grows at.ensures.out.knows.stands_for
    (subst (λ (r : Result (Option ℕ) SharedError). RunsStep taken new c.args.user.now c.args.moment r) c.in-Err.is c.copy_part-held.ensures.steps)
    (omega (arith, may.room refl, at.ensures.out.holds.2)) c.copy_part-held.ensures.out.knows.stands_for
    at.ensures.shown)

pub leave_stepped-requires-clause-left : goal.leave_stepped-requires-clause-left
leave_stepped-requires-clause-left g c = λ may. absurd (false≢true (c.if-not-may_step.ensures.may may.room (record { texts = may.texts; rests = may.rests })))
