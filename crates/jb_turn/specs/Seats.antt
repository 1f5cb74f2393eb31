-- What contracts see of a turn and of its seats.
use Rattle.std.specs.Prelude.{◌≡◌, ℕ, ◌+◌, List, [], ◌∷◌, length, slice_get, Option, Some, None}
use Rattle.atomic_table.specs.Seated.{TableId}
use Rattle.jb_turn.specs.declared.view.Row.{Row}
use Rattle.jb_turn.specs.declared.view.TicketStage.TheVariants.{Idle, Came}
use Rattle.jb_turn.specs.declared.seat.Seat.{Seat}
use Rattle.jb_turn.specs.declared.seat.RestingSeat.{RestingSeat}
use Rattle.jb_turn.specs.declared.seat.Turn.{Turn}
use Rattle.jb_turn.specs.Steps.{ticket}
use Rattle.jb_turn.specs.Rows.{head_row, first_view}

-- which turn it is
abbrev pub TurnId : Type 0
TurnId = TableId

module _ {S O E Q : Type 0} where
  -- what the seat knows
  abbrev pub row_of : Seat S O E Q → Row O E Q
  row_of s = head_row s.place.me.0.rows

  -- the number of the seat's node
  abbrev pub node : Seat S O E Q → ℕ
  node s = (row_of s).node

  -- the opening that the seat knows
  abbrev pub opening : Seat S O E Q → Option O
  opening s = (row_of s).opening

  -- the beginning of the history that the seat has seen
  abbrev pub front : Seat S O E Q → List E
  front s = (row_of s).front

  -- the calls of the seat's node
  abbrev pub mine : Seat S O E Q → List E
  mine s = (row_of s).mine

  -- what the seat was given back with
  abbrev pub remarks : Seat S O E Q → List Q
  remarks s = (row_of s).remarks

  -- the turn that the seat was made with
  abbrev pub turn_of : Seat S O E Q → TurnId
  turn_of s = s.place.table_id

  -- the turn itself
  abbrev pub id_of : Turn S O E Q → TurnId
  id_of t = t.table.shared.table_id

  -- how many seats the turn was made with
  abbrev pub seats_of : Turn S O E Q → ℕ
  seats_of t = t.seats

  -- the seat has no ticket
  abbrev pub HasNoTicket : Seat S O E Q → Type 0
  HasNoTicket s = (s.place.me.0.stage ≡ Idle) × (s.place.me.1 ≡ [])

  -- the turn of its ticket has come, and the state was taken out of its place
  abbrev pub IsHolding : Seat S O E Q → Type 0
  IsHolding s = (s.place.me.0.stage ≡ Came (ticket s.place.me.0.stage)) × (s.place.me.1 ≡ (0, None) ∷ [])

  -- the seat is of this turn, and does not hold it
  abbrev pub Rests : Turn S O E Q → Seat S O E Q → Type 0
  Rests t s = (turn_of s ≡ id_of t) × HasNoTicket s

  -- the seat is of this turn, it took the state that is out, and it has seen so many entries
  abbrev pub HoldsTurn : Turn S O E Q → Seat S O E Q → ℕ → Type 0
  HoldsTurn t s count = (turn_of s ≡ id_of t) × IsHolding s × (count ≡ length (front s))

  -- what the seat at place k of a new turn knows
  abbrev pub IsNew : O → ℕ → Seat S O E Q → Type 0
  IsNew first k s = (node s ≡ k + 1) × (opening s ≡ Some first) × (front s ≡ []) × (mine s ≡ []) × (remarks s ≡ [])

  -- the seats of a new turn, each at the place before its number
  abbrev pub AreNewSeats : O → List (Seat S O E Q) → Type 0
  AreNewSeats first seats = (k : ℕ) (s : Seat S O E Q) → slice_get seats k ≡ Some s → IsNew first k s

module _ {O E Q : Type 0} where
  -- what a resting seat knows
  abbrev pub resting_row : RestingSeat O E Q → Row O E Q
  resting_row s = head_row (first_view s.badge.views).rows

  -- the turn that a resting seat was made with
  abbrev pub resting_turn : RestingSeat O E Q → TurnId
  resting_turn s = s.badge.table_id
