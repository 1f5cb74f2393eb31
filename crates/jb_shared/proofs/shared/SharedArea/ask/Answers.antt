use Rattle.std.proofs.Common.{Err, arith, subst, sym, ◌∙◌}
use Rattle.jb_publish.specs.Accounts.{account_of}
use Rattle.jb_turn.specs.Seats.{front, resting_row, row_of}
use Rattle.jb_shared.specs.Calls.{Asks}
use Rattle.jb_shared.specs.Inside.{known_in}
use Rattle.jb_shared.specs.Passes.{Known}
use Rattle.jb_shared.specs.declared.error.SharedError.TheVariants.{RunSpent}
use Rattle.jb_shared.specs.declared.refusal.Refusal.TheVariants as refusal
use Rattle.jb_shared.proofs.CallLemmas.{calls_refused, calls_through, given_none, known_after, known_told, still_told}
use Rattle.jb_shared.proofs.shared.SharedArea.ask.Goals as goal

pub returns-then-held-ge-MOST_ENTRIES-clause-asks : goal.returns-then-held-ge-MOST_ENTRIES-clause-asks
returns-then-held-ge-MOST_ENTRIES-clause-asks g c =
    let at = c.enter-seat in
    let account = account_of c.args.parts.reader in
    let row = resting_row c.end-parts.result.seat in
    subst (λ (k : Known). Asks (known_in c.args.parts) k c.args.call.user.now c.args.call.moment c.args.call.command.now (Err RunSpent))
    (sym (known_told row account (account_of c.end-parts.result.reader) at.ensures.account.0 (c.end-parts.ensures.account ∙ at.ensures.account.1)))
    (calls_refused g.D.Disk.device account (resting_row c.args.parts.seat) (row_of at.result.seat) row (front at.result.seat) at.result.held.state c.args.call.user.now c.args.call.moment c.args.call.command.now RunSpent refusal.Spent
    at.ensures.took at.ensures.grows at.ensures.out.knows.stands_for c.end-parts.ensures.row (λ is. (omega (arith, c.if-held-ge-MOST_ENTRIES.true, at.ensures.out.holds.2), is))
    at.ensures.shown)

pub leave-requires-clause-told : goal.leave-requires-clause-told
leave-requires-clause-told g c =
    let at = c.enter-seat in
    let keeps = c.perform-held.ensures.performs in
    still_told (row_of at.result.seat) (row_of c.perform-held.new.seat) (account_of at.result.reader) keeps.mark keeps.grows at.ensures.told

pub returns-clause-asks : goal.returns-clause-asks
returns-clause-asks g c =
    let at = c.enter-seat in
    let account = account_of c.args.parts.reader in
    let told = account_of at.result.reader in
    let list = front at.result.seat in
    let new = row_of c.perform-held.new.seat in
    subst (λ (k : Known). Asks (known_in c.args.parts) k c.args.call.user.now c.args.call.moment c.args.call.command.now c.perform-held.result.1)
    (sym (known_after new (resting_row c.leave.result.seat) account told (account_of c.leave.result.reader) at.ensures.account.0 c.leave.ensures.account.0 (c.leave.ensures.row ∙ given_none new) at.ensures.account.1 c.leave.ensures.account.1))
    (calls_through g.D.Disk.device account (resting_row c.args.parts.seat) (row_of at.result.seat) new list at.result.held.state c.perform-held.result.0.state c.args.call.user.now c.args.call.moment c.args.call.command.now c.perform-held.result.1
    at.ensures.took at.ensures.grows at.ensures.out.knows.stands_for c.perform-held.ensures.performs (omega (arith, c.if-held-ge-MOST_ENTRIES.false, at.ensures.out.holds.2)) c.perform-held.ensures.out.knows.stands_for
    at.ensures.shown)
