-- Where the headers of an area stand, and the numbers in them.
use Rattle.std.specs.Prelude.{◌≡◌, ℕ, List, Option, None, Some, option_and_then, slice_get}
use Rattle.jb_redo.specs.Changes.{changed}
use Rattle.jb_disk.specs.RedoView.{RedoView}
use Rattle.jb_disk.specs.Files.{Files}
use Rattle.jb_image.specs.Places.{header_in}
use Rattle.jb_image.specs.Stands.{Loads}
use Rattle.jb_state.specs.declared.loaded.Loaded.{Loaded}
use Rattle.jb_state.specs.declared.loaded.LoadedSlot.{LoadedSlot}
use Rattle.jb_state.specs.declared.loaded.LoadedSlot.TheVariants.{Empty, Killed, Live}
use Rattle.jb_change.specs.Makes.{Makes}

-- where the header of a slot stands in .JHR, if it has one
abbrev pub header_place : LoadedSlot → Option ℕ
header_place Empty = None
header_place (Killed header_at) = Some header_at
header_place (Live message) = Some message.header_at

-- the same of the slot at this place of the index
abbrev pub header_place_at : Loaded → ℕ → Option ℕ
header_place_at loaded place = option_and_then header_place (slice_get loaded.slots place)

-- each header of the area stands in the other one where it stood
abbrev pub KeepsPlaces : Loaded → Loaded → Type 0
KeepsPlaces from to = (place at : ℕ) → header_place_at from place ≡ Some at → header_place_at to place ≡ Some at

-- each header of the area has the MessageNumber that it had
abbrev pub KeepsNumbers : Loaded → Files → Files → Type 0
KeepsNumbers loaded old new = (place at : ℕ) → header_place_at loaded place ≡ Some at → (header_in new at).number ≡ (header_in old at).number

-- of files that hold this area it makes files that hold that one, with these bytes behind the texts, and keeps each header in its place, and its MessageNumber
pub record Updates (change : RedoView) (from to : Loaded) (text : List ℕ) : Type 0 where
  pub makes : Makes change from to text
  pub places : KeepsPlaces from to
  pub numbers : (files : Files) → Loads from files → KeepsNumbers from files (changed change files)

-- the same of each header but those of the slots at these places
abbrev pub KeepsPlacesBut : (ℕ → Type 0) → Loaded → Loaded → Type 0
KeepsPlacesBut moved from to = (place at : ℕ) → (moved place → ⊥) → header_place_at from place ≡ Some at → header_place_at to place ≡ Some at

-- and of its MessageNumber
abbrev pub KeepsNumbersBut : (ℕ → Type 0) → Loaded → Files → Files → Type 0
KeepsNumbersBut moved loaded old new =
    (place at : ℕ) → (moved place → ⊥) → header_place_at loaded place ≡ Some at → (header_in new at).number ≡ (header_in old at).number

-- the same, where the headers of these slots may be put elsewhere
pub record UpdatesBut (moved : ℕ → Type 0) (change : RedoView) (from to : Loaded) (text : List ℕ) : Type 0 where
  pub makes : Makes change from to text
  pub places : KeepsPlacesBut moved from to
  pub numbers : (files : Files) → Loads from files → KeepsNumbersBut moved from files (changed change files)
