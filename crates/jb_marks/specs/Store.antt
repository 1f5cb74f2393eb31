-- The marks of an open area, and their order.
use Rattle.std.specs.Prelude.{ℕ, List}
use Rattle.jb_state.specs.declared.mark.Mark.{Mark}

-- marks in the order of the lastread file, and how many more fit
pub record MarkStore : Type 0 where
  pub marks : List Mark
  pub room : ℕ

-- the places of marks in the order of their users, and for how many there is room
pub record MarkOrder : Type 0 where
  pub order : List ℕ
  pub room : ℕ
