-- Messages of which a sum of many is a number of eight bytes.
use Rattle.std.specs.Prelude.{◌≤◌, List, [], ◌∷◌}
use Rattle.jb_state.specs.State.{SlotState}
use Rattle.jb_state.specs.Tight.{header_bytes, text_bytes}

-- the slot's message takes no more of a file than the file may have
pub record IsSmall (slot : SlotState) : Type 0 where
  pub header : header_bytes slot ≤ 536870912
  pub text : text_bytes slot ≤ 1073741824

-- so does each
abbrev pub AreSmall : List SlotState → Type 0
AreSmall [] = Unit {0}
AreSmall (slot ∷ slots) = IsSmall slot × AreSmall slots
