-- What closing shows of the rows of all seats, and which number is missing.
use Rattle.std.specs.Prelude.{◌≡◌, ℕ, ◌<◌, ◌≤◌, List, [], Option, Some}
use Rattle.jb_turn.specs.declared.view.Row.{Row}
use Rattle.jb_turn.specs.Rows.{Begins, Has, calls}

module _ {O E Q : Type 0} where
  -- the node with this number is among the rows
  abbrev pub HasRow : List (Row O E Q) → ℕ → Type 0
  HasRow rows n = (r : Row O E Q) × Has rows r × (r.node ≡ n)

  -- each node from 1 to n is among the rows
  abbrev pub HasRows : List (Row O E Q) → ℕ → Type 0
  HasRows rows n = (m : ℕ) → 0 < m → m ≤ n → HasRow rows m

  -- n is the lowest number whose node is not among the rows
  abbrev pub IsLowestRowMissing : List (Row O E Q) → ℕ → ℕ → Type 0
  IsLowestRowMissing rows count n = (0 < n) × (n ≤ count) × ((r : Row O E Q) → Has rows r → r.node ≡ n → ⊥) × ((m : ℕ) → 0 < m → m < n → HasRow rows m)

  -- what is known of a node fits the history: the opening, a prefix, and just the node's own calls
  pub record FitsHistory (caller : E → Option ℕ) (first : O) (log : List E) (r : Row O E Q) : Type 0 where
    pub opening : r.opening ≡ Some first
    pub begins : Begins r.front log
    pub mine : calls caller r.node log ≡ r.mine
    pub seen : calls caller r.node r.front ≡ r.mine

-- there is one history, the longest front of the rows; the state stands for it from their opening, each row fits it, and no
-- entry is a call of a node that is not among the rows
pub record IsWhole {S O E Q : Type 0} (stands : S → O → List E → Type 0) (caller : E → Option ℕ) (rows : List (Row O E Q)) (state : S) : Type 0 where
  pub first : O
  pub log : List E
  pub stands_for : stands state first log
  pub fits : (r : Row O E Q) → Has rows r → FitsHistory caller first log r
  pub others : (n : ℕ) → (HasRow rows n → ⊥) → calls caller n log ≡ []
  pub longest : (r : Row O E Q) × Has rows r × (r.front ≡ log)
