use Rattle.std.proofs.Common.{ap, refl, subst, sym}
use Rattle.jb_area.specs.Area.{device_of}
use Rattle.jb_publish.specs.Accounts.{account_of}
use Rattle.jb_turn.specs.Seats.{front, resting_row, row_of}
use Rattle.jb_shared.specs.Backing.{CopiesOnto}
use Rattle.jb_shared.specs.Inside.{known_in}
use Rattle.jb_shared.specs.Passes.{Known}
use Rattle.jb_shared.proofs.BackingLemmas.{copies_in, read_out, taken_in, turned}
use Rattle.jb_shared.proofs.CallLemmas.{still_told}
use Rattle.jb_shared.proofs.SettledLemmas.{begins_itself}
use Rattle.jb_shared.proofs.shared.SharedArea.copy_some.Goals as goal

pub give_back-requires-clause-told : goal.give_back-requires-clause-told
give_back-requires-clause-told g c =
    let at = c.enter-seat in
    let taken = row_of at.result.seat in
    still_told taken taken (account_of at.result.reader) refl (begins_itself taken.front) at.ensures.told

pub give_back-requires-clause-out : goal.give_back-requires-clause-out
give_back-requires-clause-out g c =
    let at = c.enter-seat in
    record {
      holds = at.ensures.out.holds;
      knows = read_out g.D.Disk.device at.result.held.state c.copy_some-copied.new.area (row_of at.result.seat) c.copy_some-copied.ensures.read at.ensures.out.knows;
    }

pub returns-clause-copies : goal.returns-clause-copies
returns-clause-copies g c =
    let at = c.enter-seat in
    let shown = g.D.Disk.device in
    let old = resting_row c.args.parts.seat in
    let list = front at.result.seat in
    let copied = c.copy_some-copied in
    let turn = turned shown (account_of c.args.parts.reader) old (row_of at.result.seat) list at.result.held.state at.ensures.took at.ensures.out.knows.stands_for in
    let taken =
    taken_in (account_of c.args.parts.reader) (account_of at.result.reader) (account_of c.give_back.result.reader) at.ensures.account.0 c.give_back.ensures.account.0 old (row_of at.result.seat)
    (resting_row c.give_back.result.seat) list at.ensures.took c.give_back.ensures.row at.ensures.account.1 c.give_back.ensures.account.1 in
    subst (λ (k : Known). CopiesOnto (known_in c.args.parts) k copied.new.self (g.E.Disk.device c.args.onto.now) (g.E.Disk.device copied.new.onto) copied.result) (sym taken)
    (copies_in shown (known_in c.args.parts) list at.result.held.state.area turn.0 c.args.end c.args.backing.now copied.new.self (device_of shown at.result.held.state.area) (device_of shown copied.new.area)
    (g.E.Disk.device c.args.onto.now) (g.E.Disk.device copied.new.onto) copied.result turn.2 turn.1 at.ensures.grows c.requires.ready copied.ensures.begun copied.ensures.packs copied.ensures.copies
    (λ doubt. let still = copied.ensures.passed doubt in (still.0, ap g.E.Disk.device still.1)) copied.ensures.crash copied.ensures.answer)
