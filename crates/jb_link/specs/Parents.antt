-- The parents of messages: by their places, and of a message behind all others.
use Rattle.std.specs.Prelude.{◌≡◌, ℕ, ◌+◌, ◌<◌, List, [], Option, length, option_and_then, slice_index}
use Rattle.jb_state.specs.Plan.{loaded_at}
use Rattle.jb_state.specs.LiveSlots.{linkables}
use Rattle.jb_state.specs.Links.{Linkable, parent_at, parent_for}
use Rattle.jb_state.specs.Message.{msgid_of}
use Rattle.jb_state.specs.Posted.{if_copied}
use Rattle.jb_state.specs.declared.loaded.Loaded.{Loaded}

-- at each of so many places, of which the first has the number `base`, the parent of that number, or 0
pub record AreParents (live : List Linkable) (base count : ℕ) (parents : List ℕ) : Type 0 where
  pub len : length parents ≡ count
  pub each : (place : ℕ) → place < count → slice_index parents place ≡ parent_at live (base + place)

-- the MSGID of the message that a number names, where that has one that is copied into an answer
abbrev pub copied_msgid : Loaded → ℕ → Option (List ℕ)
copied_msgid loaded number = option_and_then if_copied (option_and_then (λ answered. msgid_of answered.subfields) (loaded_at loaded number))

-- the parent of a message behind all others that answers this number
abbrev pub parent_behind : Loaded → ℕ → ℕ
parent_behind loaded number = parent_for (linkables [] loaded) (loaded.base + length loaded.slots) (copied_msgid loaded number) number
