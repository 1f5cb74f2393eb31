-- What each step on the table tells the seat that makes it.
use Rattle.std.specs.Prelude.{◌≡◌, ◌≢◌, ℕ, ◌+◌, ◌%◌, ◌^◌, List, [], ◌∷◌, ◌++◌, length, Option, Some, None}
use Rattle.atomic_table.specs.Table.{Me, Step}
use Rattle.jb_turn.specs.declared.view.Row.{Row}
use Rattle.jb_turn.specs.declared.view.View.{View}
use Rattle.jb_turn.specs.declared.view.TicketStage.{TicketStage}
use Rattle.jb_turn.specs.declared.view.TicketStage.TheVariants.{Idle, Waits, Came}
use Rattle.jb_turn.specs.Rows.{Begins, calls, when, is_at, row, view_of, head_row, StandsFrom}

-- the ticket of a seat, 0 where it has none
abbrev pub ticket : TicketStage → ℕ
ticket Idle = 0
ticket (Waits t) = t
ticket (Came t) = t

-- the one element, or none
abbrev pub listed : {A : Type 0} → Option A → List A
listed None = []
listed (Some x) = x ∷ []

module _ {O E Q : Type 0} where
  -- the row after a sight of the whole history
  abbrev pub sighted : Row O E Q → List E → Row O E Q
  sighted r log = row r.node r.opening log r.mine r.remarks

  -- the row with one entry more, which is also one of the node's own where it is its call
  abbrev pub noted : (E → Option ℕ) → Row O E Q → E → Row O E Q
  noted caller r e = row r.node r.opening (r.front ++ e ∷ []) (r.mine ++ when (is_at r.node (caller e)) e) r.remarks

  -- the row with one remark more, if there is one
  abbrev pub given : Row O E Q → Option Q → Row O E Q
  given r remark = row r.node r.opening r.front r.mine (r.remarks ++ listed remark)

  -- what the first seat of a turn knows
  abbrev pub maker : O → View O E Q
  maker first = view_of Idle (row 1 (Some first) [] [] [] ∷ []) 1

  -- a seat that has made another counts the seats no more
  abbrev pub maker_no_more : View O E Q → View O E Q
  maker_no_more v = view_of v.stage v.rows 0

  -- the seat that it made has the next node, the same front, and no call of its own yet
  abbrev pub newcomer : View O E Q → View O E Q
  newcomer v = view_of Idle (row (v.made + 1) (head_row v.rows).opening (head_row v.rows).front [] [] ∷ []) (v.made + 1)

  -- the seat that took in another has the rows of both
  abbrev pub both : View O E Q → View O E Q → View O E Q
  both v w = view_of v.stage (v.rows ++ w.rows) v.made

  -- the seat that was taken in has none
  abbrev pub spent : View O E Q
  spent = view_of Idle [] 0

module _ {S O E Q : Type 0} where
  -- the addition to the ticket word gives the seat that ticket
  abbrev pub Draws : Step (Option S) → Me (Option S) (View O E Q) → ℕ → Me (Option S) (View O E Q) → Type 0
  Draws st m n m' = (t : ℕ) × (n ≡ t % 2 ^ 64) × (m' ≡ (view_of (Waits t) m.0.rows m.0.made, m.1))

  -- where its turn has come the seat sees the whole history, and has the state out, which stands for it
  abbrev pub Arrives : (S → O → List E → Type 0) → (E → Option ℕ) → ℕ → Me (Option S) (View O E Q) → Me (Option S) (View O E Q) → Type 0
  Arrives stands caller t m m' =
      (log : List E) × (x : S) × (m' ≡ (view_of (Came t) (sighted (head_row m.0.rows) log ∷ []) m.0.made, (0, Some x) ∷ []))
      × Begins (head_row m.0.rows).front log × (calls caller (head_row m.0.rows).node log ≡ (head_row m.0.rows).mine) × StandsFrom stands (head_row m.0.rows).opening x log

  -- a look at the ticket that is served: the turn has come where it is the seat's, else nothing is learnt
  abbrev pub Comes : (S → O → List E → Type 0) → (E → Option ℕ) → Step (Option S) → Me (Option S) (View O E Q) → ℕ → Me (Option S) (View O E Q) → Type 0
  Comes stands caller st m n m' = (n ≡ ticket m.0.stage % 2 ^ 64 → Arrives stands caller (ticket m.0.stage) m m') × (n ≢ ticket m.0.stage % 2 ^ 64 → m' ≡ m)

  -- a look at the count while the state is out with the seat tells the length of what it has sighted
  abbrev pub Counts : Step (Option S) → Me (Option S) (View O E Q) → ℕ → Me (Option S) (View O E Q) → Type 0
  Counts st m n m' = (m' ≡ m) × (n ≡ length (head_row m.0.rows).front)

  -- the addition to the count is the entry that was picked
  abbrev pub Notes : (E → Option ℕ) → Option E → Step (Option S) → Me (Option S) (View O E Q) → ℕ → Me (Option S) (View O E Q) → Type 0
  Notes caller picked st m n m' = (e : E) → picked ≡ Some e → m' ≡ (view_of m.0.stage (noted caller (head_row m.0.rows) e ∷ []) m.0.made, m.1)

  -- the addition to the ticket that is served ends the turn, puts the state back and keeps the remark
  abbrev pub Gives : Option Q → Step (Option S) → Me (Option S) (View O E Q) → ℕ → Me (Option S) (View O E Q) → Type 0
  Gives remark st m n m' = m' ≡ (view_of Idle (given (head_row m.0.rows) remark ∷ []) m.0.made, [])
