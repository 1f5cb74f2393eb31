-- What a call makes of what its seat knows, while the area is out with the seat.
use Rattle.std.specs.Prelude.{◌≡◌, List, Some}
use Rattle.jb_area.specs.declared.area.OpenArea.{OpenArea}
use Rattle.jb_disk.specs.Device.{Device}
use Rattle.jb_model.specs.declared.entry.Entry.{Entry}
use Rattle.jb_model.specs.declared.entry.Outcome.{Outcome}
use Rattle.jb_publish.specs.Accounts.{Account}
use Rattle.jb_publish.specs.declared.known.PairMark.{PairMark}
use Rattle.jb_turn.specs.Rows.{Begins, StandsFrom, calls}
use Rattle.jb_turn.specs.Seats.{HoldsTurn, row_of}
use Rattle.jb_turn.specs.declared.seat.Held.{Held}
use Rattle.jb_turn.specs.declared.seat.Seat.{Seat}
use Rattle.jb_turn.specs.declared.seat.Turn.{Turn}
use Rattle.jb_turn.specs.declared.view.Row.{Row}
use Rattle.jb_shared.specs.Calls.{call_of}
use Rattle.jb_shared.specs.Histories.{settled_of}
use Rattle.jb_shared.specs.Inside.{known_by_both}
use Rattle.jb_shared.specs.Passes.{Known}
use Rattle.jb_shared.specs.Standing.{LeavesBetween, caller_of}
use Rattle.jb_shared.specs.declared.call.Call.{Call}
use Rattle.jb_shared.specs.declared.opening.Opening.{Opening}
use Rattle.jb_shared.specs.declared.refusal.Refusal.{Refusal}
use Rattle.jb_shared.specs.declared.shown.ShownArea.{ShownArea}

-- what a seat knows
abbrev pub SeatRow : Type 0
SeatRow = Row (PairMark Opening) Entry Refusal

-- the reader is of the area for which the seat is, and was told all that is settled of what the seat has seen
abbrev pub IsToldOf : SeatRow → Account Opening Entry → Type 0
IsToldOf known account = (account.mark ≡ known.opening) × (account.told ≡ settled_of known.front)

-- the reader is of the area for which the seat is, and was told no more than is settled of what the seat has seen
abbrev pub IsBehind : SeatRow → Account Opening Entry → Type 0
IsBehind known account = (account.mark ≡ known.opening) × Begins account.told (settled_of known.front)

-- the entry of the seat's next call
abbrev pub next_call : SeatRow → Call → Outcome → Entry
next_call known call = call_of known.node known.mine call.user.now call.moment call.command.now

-- the mark stays, what was seen is a beginning of what is seen then, and this holds of what is known before and after, with any reader
pub record Leads (holds : Known → Known → Type 0) (old new : SeatRow) : Type 0 where
  pub mark : new.opening ≡ old.opening
  pub grows : Begins old.front new.front
  pub known : (account : Account Opening Entry) → holds (known_by_both old account) (known_by_both new account)

-- a crash at any moment meanwhile leaves what opens to the area after a history that begins with all that the seat had seen, and so with all
-- that looks were shown, and that begins what the seat has seen then; the disk shows itself so
abbrev pub LeavesInTurn : {D : Type 0} → (D → Device) → OpenArea D → OpenArea D → SeatRow → SeatRow → Type 0
LeavesInTurn shown old new known known' = (first : PairMark Opening) → known.opening ≡ Some first → LeavesBetween shown old new first.opening known.front known'.front

module _ {D : Type 0} (stands : ShownArea D → PairMark Opening → List Entry → Type 0) where
  -- the state stands so for all that is known, in which there are just those calls of the node that it knows as its own
  pub record Knows (state : ShownArea D) (known : SeatRow) : Type 0 where
    pub stands_for : StandsFrom stands known.opening state known.front
    pub own : calls caller_of known.node known.front ≡ known.mine

  -- the state is out with the seat, and stands so for all that the seat has seen
  pub record IsOut (turn : Turn (ShownArea D) (PairMark Opening) Entry Refusal) (seat : Seat (ShownArea D) (PairMark Opening) Entry Refusal) (held : Held (ShownArea D)) : Type 0 where
    pub holds : HoldsTurn turn seat held.count
    pub knows : Knows held.state (row_of seat)
