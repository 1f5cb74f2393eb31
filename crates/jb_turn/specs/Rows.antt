-- A history as a list of entries, and what a seat knows of it.
use Rattle.std.specs.Prelude.{◌≡◌, ◌≢◌, ℕ, Bool, true, false, ◌==◌, List, [], ◌∷◌, ◌++◌, Option, Some, None}
use mathlib.Core.Option.{some}
use lib.ListN.{get_elem?}
use Rattle.jb_turn.specs.declared.view.Row.{Row}
use Rattle.jb_turn.specs.declared.view.View.{View}
use Rattle.jb_turn.specs.declared.view.TicketStage.{TicketStage}
use Rattle.jb_turn.specs.declared.view.TicketStage.TheVariants.{Idle}

-- the second list begins with the first
abbrev pub Begins : {A : Type 0} → List A → List A → Type 0
Begins {A} xs ys = (rest : List A) × (ys ≡ xs ++ rest)

-- x stands in the list
abbrev pub Has : {A : Type 0} → List A → A → Type 0
Has xs x = (k : ℕ) × (get_elem? xs k ≡ some x)

-- there is a node here, and it is this one
abbrev pub is_at : ℕ → Option ℕ → Bool
is_at n None = false
is_at n (Some m) = m == n

-- the one element, or none
abbrev pub when : {A : Type 0} → Bool → A → List A
when true x = x ∷ []
when false x = []

-- the calls of a node, in the order of the history
abbrev pub calls : {E : Type 0} → (E → Option ℕ) → ℕ → List E → List E
calls caller n [] = []
calls caller n (e ∷ es) = when (is_at n (caller e)) e ++ calls caller n es

-- the entry is no call of another node
abbrev pub IsOwn : {E : Type 0} → (E → Option ℕ) → ℕ → E → Type 0
IsOwn caller node e = (n : ℕ) → n ≢ node → is_at n (caller e) ≡ false

-- an opening is known, and from it the state stands for the list
abbrev pub StandsFrom : {S O E : Type 0} → (S → O → List E → Type 0) → Option O → S → List E → Type 0
StandsFrom stands None state log = ⊥
StandsFrom stands (Some opening) state log = stands state opening log

module _ {O E Q : Type 0} where
  -- what is known of one node
  abbrev pub row : ℕ → Option O → List E → List E → List Q → Row O E Q
  row node opening front mine remarks = record { node = node; opening = opening; front = front; mine = mine; remarks = remarks }

  -- what a seat knows
  abbrev pub view_of : TicketStage → List (Row O E Q) → ℕ → View O E Q
  view_of stage rows made = record { stage = stage; rows = rows; made = made }

  -- the first row, or nobody's where there is none
  abbrev pub head_row : List (Row O E Q) → Row O E Q
  head_row [] = row 0 None [] [] []
  head_row (r ∷ rs) = r

  -- the first view, or nobody's where there is none
  abbrev pub first_view : List (View O E Q) → View O E Q
  first_view [] = view_of Idle [] 0
  first_view (v ∷ vs) = v
