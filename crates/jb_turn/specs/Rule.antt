-- The rule of the turn: what always holds of the table's words, the state's place and the views of all seats together.
use Rattle.std.specs.Prelude.{◌≡◌, ◌⊎◌, ℕ, ◌+◌, ◌%◌, ◌^◌, ◌<◌, ◌≤◌, List, [], ◌∷◌, length, Option, Some}
use mathlib.Core.Option.{some}
use mathlib.Core.Option as maybe
use lib.ListN.{get_elem?}
use Rattle.atomic_table.specs.Table.{State}
use Rattle.jb_turn.specs.declared.view.Row.{Row}
use Rattle.jb_turn.specs.declared.view.View.{View}
use Rattle.jb_turn.specs.declared.view.TicketStage.{TicketStage}
use Rattle.jb_turn.specs.declared.view.TicketStage.TheVariants.{Idle, Waits, Came}
use Rattle.jb_turn.specs.Whole.{HasRow}
use Rattle.jb_turn.specs.Rows.{Begins, Has, calls}

-- the place of the state, as the table sees it: the state is there, or the place was emptied, or it is out with a seat
abbrev pub Home : Type 0 → Type 0
Home S = List (maybe.Option (Option S))

-- 1 where the seat has a ticket, else 0
abbrev pub weight : TicketStage → ℕ
weight Idle = 0
weight (Waits t) = 1
weight (Came t) = 1

-- the seat has this ticket
abbrev pub HasTicket : ℕ → TicketStage → Type 0
HasTicket t Idle = ⊥
HasTicket t (Waits u) = u ≡ t
HasTicket t (Came u) = u ≡ t

-- the nodes that were made are numbered from 1 up to their number
abbrev pub AreMade : ℕ → ℕ → Type 0
AreMade made n = (0 < n) × (n ≤ made)

module _ {O E Q : Type 0} where
  -- how many views have a ticket
  abbrev pub waiting : List (View O E Q) → ℕ
  waiting [] = 0
  waiting (v ∷ vs) = weight v.stage + waiting vs

  -- the ticket is out with the seat that it was drawn by
  abbrev pub IsDrawn : (ℕ → ℕ) → List (View O E Q) → ℕ → Type 0
  IsDrawn whose views t = (v : View O E Q) × (get_elem? views (whose t) ≡ some v) × HasTicket t v.stage

  -- what is known of a node is true of the history
  pub record IsRow (caller : E → Option ℕ) (first : O) (log : List E) (made : ℕ) (r : Row O E Q) : Type 0 where
    -- the opening that it knows is that of the turn
    pub opening : r.opening ≡ Some first
    -- its front is a prefix of the history
    pub begins : Begins r.front log
    -- the history's calls of the node are those that it knows as its own
    pub mine : calls caller r.node log ≡ r.mine
    -- and they all stand in its front
    pub seen : calls caller r.node r.front ≡ r.mine
    -- the node was made
    pub made_before : AreMade made r.node

  -- the seat at place j still has the node that it was made with, or another seat took it in and it has none
  abbrev pub HasOwn : (ℕ → ℕ) → ℕ → View O E Q → Type 0
  HasOwn owner j v = ((owner (j + 1) ≡ j) × HasRow v.rows (j + 1)) ⊎ ((v.rows ≡ []) × (v.stage ≡ Idle))

  -- the state is out with the seat whose ticket is served
  abbrev pub IsStateOut : ℕ → List (View O E Q) → Type 0
  IsStateOut serving views = (j : ℕ) × (v : View O E Q) × (get_elem? views j ≡ some v) × (v.stage ≡ Came serving)

  -- some front is the whole history
  abbrev pub IsLongest : List E → List (View O E Q) → Type 0
  IsLongest log views = (j : ℕ) × (v : View O E Q) × (r : Row O E Q) × (get_elem? views j ≡ some v) × Has v.rows r × (r.front ≡ log)

module _ {S O E Q : Type 0} where
  -- what the stage of the seat at place j says: its ticket is out and no other seat's; and where the ticket's turn has
  -- come, it is the ticket that is served, the state's place is empty, and the seat has seen the whole history
  abbrev pub IsStage : List E → Home S → ℕ → ℕ → (ℕ → ℕ) → ℕ → List (Row O E Q) → TicketStage → Type 0
  IsStage log home serving next whose j rows Idle = Unit {0}
  IsStage log home serving next whose j rows (Waits t) = (serving ≤ t) × (t < next) × (whose t ≡ j)
  IsStage log home serving next whose j rows (Came t) =
      (serving ≡ t) × (t < next) × (whose t ≡ j) × (home ≡ maybe.none ∷ []) × ((r : Row O E Q) → Has rows r → r.front ≡ log)

  -- what the seat at place j knows is true
  pub record IsSeat (caller : E → Option ℕ) (first : O) (log : List E) (home : Home S) (made serving next : ℕ) (whose owner : ℕ → ℕ) (j : ℕ) (v : View O E Q) : Type 0 where
    pub rows : (r : Row O E Q) → Has v.rows r → IsRow caller first log made r
    -- each node is with one seat
    pub owned : (r : Row O E Q) → Has v.rows r → owner r.node ≡ j
    pub stage : IsStage log home serving next whose j v.rows v.stage
    pub own : HasOwn owner j v
    -- the seat that counts the seats that were made is the last of them
    pub maker : 0 < v.made → (v.made ≡ made) × (j + 1 ≡ made)

module _ {S O E : Type 0} (stands : S → O → List E → Type 0) where
  -- the state is in its place, and stands for the history
  abbrev pub IsHome : O → List E → Home S → Type 0
  IsHome first log home = (x : S) × (home ≡ some (Some x) ∷ []) × stands x first log

module _ {S O E Q : Type 0} (stands : S → O → List E → Type 0) (caller : E → Option ℕ) where
  -- There is one history, one ticket that is served, one that is drawn next, and for each ticket and each node the seat
  -- that has it.
  pub record TurnRule (first : O) (seats : ℕ) (s : State (Option S) (View O E Q)) : Type 0 where
    pub log : List E
    pub serving : ℕ
    pub next : ℕ
    pub whose : ℕ → ℕ
    pub owner : ℕ → ℕ
    -- The words are the ticket that is drawn next and the one that is served, modulo 2^64, and the length of the history.
    pub words_are : s.words ≡ next % 2 ^ 64 ∷ serving % 2 ^ 64 ∷ length log ∷ []
    -- The tickets that are out are those from the one that is served up to the one that is drawn next: each of these is
    -- with one view, and as many views have a ticket. There are at most 33.
    pub drawn : (t : ℕ) → serving ≤ t → t < next → IsDrawn whose s.views t
    pub queue : serving + waiting s.views ≡ next
    pub room : length s.views ≤ seats
    pub few : seats ≤ 33
    -- Only the view with the ticket that is served may have the state out (`each`, its stage), and whenever the state is
    -- in its place it stands for the history. So it is out exactly with that view. An entry is one addition to the word
    -- of the length, made by the seat that has the state out; the state stands for the history again, with the entry, before
    -- it can be put back.
    pub state : IsHome stands first log s.homes ⊎ IsStateOut serving s.views
    -- The history is the longest front, and every front is a prefix of it (`each`, its rows).
    pub longest : IsLongest log s.views
    -- The n-th seat that was made has node n until another takes it in, no two views have one node, and the history's
    -- calls of a view's nodes stand in its front and are its own (`each`). No entry has a node that was not made.
    pub each : (j : ℕ) (v : View O E Q) → get_elem? s.views j ≡ some v → IsSeat caller first log s.homes (length s.views) serving next whose owner j v
    pub unmade : (n : ℕ) → (AreMade (length s.views) n → ⊥) → calls caller n log ≡ []
