use Rattle.std.proofs.Common.{Result, ap, refl, subst, sym}
use Rattle.jb_backup.specs.declared.error.BackupError.{BackupError}
use Rattle.jb_publish.specs.Accounts.{account_of}
use Rattle.jb_turn.specs.Seats.{front, resting_row, row_of}
use Rattle.jb_shared.specs.Backups.{Finishes, FinishesAs, told_backed}
use Rattle.jb_shared.specs.Inside.{known_in}
use Rattle.jb_shared.specs.Passes.{Known}
use Rattle.jb_shared.specs.declared.backed.Backed.{Backed}
use Rattle.jb_shared.proofs.BackingLemmas.{finishes, read_out, ready_front, rest_or_doubt, taken_in, turned}
use Rattle.jb_shared.proofs.CallLemmas.{still_told}
use Rattle.jb_shared.proofs.SettledLemmas.{begins_itself}
use Rattle.jb_shared.proofs.shared.SharedArea.copy_rest.Goals as goal

pub finish-finished-requires-clause-stands : goal.finish-finished-requires-clause-stands
finish-finished-requires-clause-stands g c =
    let at = c.enter-seat in
    let shown = g.D.Disk.device in
    let list = front at.result.seat in
    let turn = turned shown (account_of c.args.parts.reader) (resting_row c.args.parts.seat) (row_of at.result.seat) list at.result.held.state at.ensures.took at.ensures.out.knows.stands_for in
    rest_or_doubt shown at.result.held.state.area turn.0 list turn.2

pub finish-finished-requires-clause-front : goal.finish-finished-requires-clause-front
finish-finished-requires-clause-front g c =
    let at = c.enter-seat in
    let shown = g.D.Disk.device in
    let list = front at.result.seat in
    let turn = turned shown (account_of c.args.parts.reader) (resting_row c.args.parts.seat) (row_of at.result.seat) list at.result.held.state at.ensures.took at.ensures.out.knows.stands_for in
    ready_front shown (known_in c.args.parts) list at.result.held.state.area turn.0 c.args.backing.now (g.E.Disk.device c.args.onto.now) turn.2 turn.1 at.ensures.grows c.requires.ready

pub give_back-parts-requires-clause-told : goal.give_back-parts-requires-clause-told
give_back-parts-requires-clause-told g c =
    let at = c.enter-seat in
    let taken = row_of at.result.seat in
    still_told taken taken (account_of at.result.reader) refl (begins_itself taken.front) at.ensures.told

pub give_back-parts-requires-clause-out : goal.give_back-parts-requires-clause-out
give_back-parts-requires-clause-out g c =
    let at = c.enter-seat in
    record {
      holds = at.ensures.out.holds;
      knows = read_out g.D.Disk.device at.result.held.state c.finish-finished.new.area (row_of at.result.seat) c.finish-finished.ensures.read at.ensures.out.knows;
    }

pub returns-clause-finishes : goal.returns-clause-finishes
returns-clause-finishes g c =
    let at = c.enter-seat in
    let shown = g.D.Disk.device in
    let old = resting_row c.args.parts.seat in
    let list = front at.result.seat in
    let last = c.finish-finished in
    let parts = c.give_back-parts in
    let before = g.E.Disk.device c.args.onto.now in
    let after = g.E.Disk.device last.new.onto in
    let turn = turned shown (account_of c.args.parts.reader) old (row_of at.result.seat) list at.result.held.state at.ensures.took at.ensures.out.knows.stands_for in
    let taken =
    taken_in (account_of c.args.parts.reader) (account_of at.result.reader) (account_of parts.result.reader) at.ensures.account.0 parts.ensures.account.0 old (row_of at.result.seat)
    (resting_row parts.result.seat) list at.ensures.took parts.ensures.row at.ensures.account.1 parts.ensures.account.1 in
    subst (λ (r : Result Backed BackupError). Finishes FinishesAs (known_in c.args.parts) (known_in c.give_back-parts.result) before after r) (sym c.backed_with.ensures)
    (subst (λ (k : Known). Finishes FinishesAs (known_in c.args.parts) k before after (told_backed at.result.held.count last.result)) (sym taken)
    (finishes shown (known_in c.args.parts) list at.result.held.state.area turn.0 at.result.held.count c.args.backing.now before after last.result turn.2 turn.1 at.ensures.grows
    at.ensures.out.holds.2 c.requires.ready.begun last.ensures.live last.ensures.whole last.ensures.crash last.ensures.fault
    (λ doubt. let still = last.ensures.doubt doubt in (still.0, ap g.E.Disk.device still.1)) last.ensures.faults last.ensures.alike))
