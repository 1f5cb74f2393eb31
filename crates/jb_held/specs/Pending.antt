-- What is pending in an area, and whether it may be done there.
use Rattle.std.specs.Prelude.{◌≡◌, ℕ, ◌+◌, Bool, true, false, Some, None, length}
use Rattle.std.specs.Int.{is_power_of_two}
use Rattle.jb_limits.specs.declared.limits.TheConstants.{MOST_SLOTS}
use Rattle.jb_link.specs.Index.{IsIndexOf, ReplyIndex}
use Rattle.jb_state.specs.Change.{Fits}
use Rattle.jb_state.specs.Packed.{packed}
use Rattle.jb_state.specs.Room.{IsWider}
use Rattle.jb_state.specs.Sound.{IsSound}
use Rattle.jb_state.specs.declared.change.Change.{Change}
use Rattle.jb_state.specs.declared.change.Change.TheVariants.{Packed, Posted}
use Rattle.jb_state.specs.declared.loaded.Loaded.{Loaded}
use Rattle.jb_held.specs.declared.pending.Pending.{Pending}
use Rattle.jb_held.specs.declared.pending.Room.{Room}

-- a change that brings nothing
abbrev pub no_room : Room
no_room = record { replies = None; slots = None }

-- the index of the replies in the packed area, with room for more
pub record BringsPacked (room : Room) (loaded : Loaded) : Type 0 where
  pub index : ReplyIndex
  pub brought : room ≡ record { replies = Some index; slots = None }
  pub is : IsIndexOf index (packed loaded)
  pub index_room : IsWider (length (packed loaded).slots) (length (packed loaded).slots + index.room)

-- the index of the replies as it is, with room for more, and more places for slots
pub record BringsWider (room : Room) (loaded : Loaded) : Type 0 where
  pub index : ReplyIndex
  pub places : ℕ
  pub brought : room ≡ record { replies = Some index; slots = Some places }
  pub is : IsIndexOf index loaded
  pub index_room : IsWider (length loaded.slots) (length loaded.slots + index.room)
  pub slot_room : IsWider (length loaded.slots) places

-- that, where there are as many slots as a power of two
abbrev pub BringsWhere : Bool → Room → Loaded → Type 0
BringsWhere false room loaded = room ≡ no_room
BringsWhere true room loaded = BringsWider room loaded

-- a pack brings its index; a post brings more room where there are as many slots as a power of two; any other change brings nothing
abbrev pub BringsRoom : Change → Room → Loaded → Type 0
BringsRoom (Packed plan base) room loaded = BringsPacked room loaded
BringsRoom (Posted message neighbour) room loaded = BringsWhere (is_power_of_two (length loaded.slots)) room loaded
BringsRoom _ room loaded = room ≡ no_room

-- what is pending may be done in the area
pub record MayApply (pending : Pending) (loaded : Loaded) : Type 0 where
  pub sound : IsSound MOST_SLOTS loaded
  pub fits : Fits MOST_SLOTS pending.change loaded
  pub room : BringsRoom pending.change pending.room loaded
