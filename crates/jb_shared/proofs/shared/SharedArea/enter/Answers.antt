use Rattle.std.proofs.Common.{◌≡◌, ap, subst, sym, ◌∙◌}
use Rattle.jb_publish.specs.Accounts.{account_of}
use Rattle.jb_publish.specs.Fronts.{known_list}
use Rattle.jb_publish.specs.Marks.{book_at}
use Rattle.jb_publish.specs.Publications.{publication_of}
use Rattle.jb_turn.specs.Rows.{Begins}
use Rattle.jb_turn.specs.Seats.{front, resting_row, row_of}
use Rattle.jb_turn.specs.Steps.{sighted as took_in}
use Rattle.jb_shared.specs.InTurn.{SeatRow}
use Rattle.jb_shared.proofs.CallLemmas.{is_informed, may_inform, shown_begins, taken_pair, told_taking}
use Rattle.jb_shared.proofs.shared.SharedArea.enter.Goals as goal

pub leads-requires : goal.leads-requires
leads-requires g c =
    record { pair = c.seen.ensures.pair ∙ ap book_at (taken_pair g.D.Disk.device (resting_row c.args.parts.seat) (row_of c.take-held.new.seat) (front c.take-held.new.seat) (account_of c.args.parts.reader) c.take-held.result.state (c.take-held.ensures.same ∙ ap (λ (r : SeatRow). took_in r (front c.take-held.new.seat)) c.wake-seat.ensures.same.1) c.args.parts.same_mark c.take-held.ensures.state) }

pub inform-requires-clause-mark : goal.inform-requires-clause-mark
inform-requires-clause-mark g c =
    taken_pair g.D.Disk.device (resting_row c.args.parts.seat) (row_of c.take-held.new.seat) (front c.take-held.new.seat) (account_of c.args.parts.reader) c.take-held.result.state (c.take-held.ensures.same ∙ ap (λ (r : SeatRow). took_in r (front c.take-held.new.seat)) c.wake-seat.ensures.same.1) c.args.parts.same_mark c.take-held.ensures.state

pub returns-clause-shown : goal.returns-clause-shown
returns-clause-shown g c =
    shown_begins g.D.Disk.device (row_of c.take-held.new.seat) (account_of c.args.parts.reader) c.take-held.result.state (known_list c.seen.result) c.seen.ensures.list c.take-held.ensures.state c.leads.ensures

pub inform-requires-clause-grown : goal.inform-requires-clause-grown
inform-requires-clause-grown g c =
    let old = resting_row c.args.parts.seat in
    let taken = row_of c.take-held.new.seat in
    let list = front c.take-held.new.seat in
    let account = account_of c.args.parts.reader in
    let took : taken ≡ took_in old list = c.take-held.ensures.same ∙ ap (λ (r : SeatRow). took_in r list) c.wake-seat.ensures.same.1 in
    let grows : Begins old.front list = subst (λ (r : SeatRow). Begins r.front list) c.wake-seat.ensures.same.1 c.take-held.ensures.grows in
    let told = told_taking old taken account list (c.args.parts.same_mark, c.args.parts.informed) took grows in
    may_inform g.D.Disk.device taken account c.take-held.result.state told.1 c.take-held.ensures.state

pub returns-clause-took : goal.returns-clause-took
returns-clause-took g c = c.take-held.ensures.same ∙ ap (λ (r : SeatRow). took_in r (front c.take-held.new.seat)) c.wake-seat.ensures.same.1

pub returns-clause-grows : goal.returns-clause-grows
returns-clause-grows g c = subst (λ (r : SeatRow). Begins r.front (front c.take-held.new.seat)) c.wake-seat.ensures.same.1 c.take-held.ensures.grows

pub returns-clause-told : goal.returns-clause-told
returns-clause-told g c =
    let old = resting_row c.args.parts.seat in
    let taken = row_of c.take-held.new.seat in
    let list = front c.take-held.new.seat in
    let took : taken ≡ took_in old list = c.take-held.ensures.same ∙ ap (λ (r : SeatRow). took_in r list) c.wake-seat.ensures.same.1 in
    let mark : (account_of c.args.parts.reader).mark ≡ taken.opening = c.args.parts.same_mark ∙ ap (λ (r : SeatRow). r.opening) (sym took) in
    is_informed g.D.Disk.device taken (account_of c.args.parts.reader) (account_of c.inform.new.reader) c.take-held.result.state mark c.take-held.ensures.state c.inform.ensures

pub returns-clause-account : goal.returns-clause-account
returns-clause-account g c = ((publication_of c.take-held.result.state.shower).list, c.inform.ensures)
