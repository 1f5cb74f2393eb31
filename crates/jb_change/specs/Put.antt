-- Which changes are put into a redo, and what else they do there.
use Rattle.std.specs.Prelude.{◌≡◌, ◌⊎◌, ℕ, ◌+◌, ◌*◌, ◌<◌, ◌≤◌, List, [], Option, None, Some, length, slice_index}
use Rattle.jb_redo.specs.Changes.{changed}
use Rattle.jb_disk.specs.RedoView.{RedoView}
use Rattle.jb_disk.specs.Files.{Files}
use Rattle.jb_disk.specs.declared.file.FileId.{FileId}
use Rattle.jb_disk.specs.declared.file.FileId.TheVariants.{Jhr, Jdx, Jlr}
use Rattle.jb_image.specs.Stands.{Loads}
use Rattle.jb_state.specs.declared.change.Change.{Change}
use Rattle.jb_state.specs.declared.change.Change.TheVariants.{Nothing, Posted, Headed, Edited, Killed, Relinked, Marked, Packed}
use Rattle.jb_state.specs.declared.change.HeadAt.{HeadAt}
use Rattle.jb_state.specs.Loaded.{IsMessageAt}
use Rattle.jb_state.specs.declared.loaded.Loaded.{Loaded}
use Rattle.jb_state.specs.declared.loaded.LoadedMessage.{LoadedMessage}
use Rattle.jb_change.specs.Post.{HasNextNumber, HasNumber}

-- for a post and an edit this is the text of the message, and otherwise there is none
abbrev pub IsTextOf : Change → List ℕ → Type 0
IsTextOf (Posted message neighbour) text = message.text_len ≡ length text
IsTextOf (Edited place message) text = message.text_len ≡ length text
IsTextOf _ text = text ≡ []

-- the change takes no memory for its redo: it is none of a post, an edit or a relink, which have as much as there is to say, and none
-- of a pack
abbrev pub IsShort : Change → Type 0
IsShort (Posted message neighbour) = ⊥
IsShort (Edited place message) = ⊥
IsShort (Relinked plan) = ⊥
IsShort (Packed plan base) = ⊥
IsShort _ = Unit {0}

-- the change is none of a pack, whose redo the packer puts together
abbrev pub IsNoPacking : Change → Type 0
IsNoPacking (Packed plan base) = ⊥
IsNoPacking _ = Unit {0}

-- the header of the slot at this place is put elsewhere: that of the message that is edited
abbrev pub IsMoved : Change → ℕ → Type 0
IsMoved (Edited place message) other = other ≡ place
IsMoved _ other = ⊥

-- a message that is posted has the area's next number in its header then, and one that is edited the number that it had
abbrev pub NumbersPosted : RedoView → Loaded → Change → Type 0
NumbersPosted redo loaded (Posted message neighbour) = HasNextNumber redo loaded message
NumbersPosted redo loaded (Edited place message) = HasNumber (loaded.base + place) redo loaded message
NumbersPosted redo loaded _ = Unit {0}

-- a place in ModCounter or ActiveMsgs
abbrev pub IsInCounts : FileId → ℕ → Type 0
IsInCounts file i = (file ≡ Jhr) × (8 ≤ i) × (i < 16)

-- a place in so many bytes, from this one on, of the header of the live message that stands at a place of the index
pub record IsInHeaderAt (loaded : Loaded) (place from len : ℕ) (file : FileId) (i : ℕ) : Type 0 where
  pub message : LoadedMessage
  pub here : IsMessageAt loaded place message
  pub headers : file ≡ Jhr
  pub low : message.header_at + from ≤ i
  pub high : i < message.header_at + from + len

-- a place in the links of some live message
abbrev pub IsInLinks : Loaded → FileId → ℕ → Type 0
IsInLinks loaded file i = (place : ℕ) × IsInHeaderAt loaded place 24 12 file i

-- a place in the links of the neighbour, where there is one
abbrev pub IsInNeighbour : Loaded → Option HeadAt → FileId → ℕ → Type 0
IsInNeighbour loaded None file i = ⊥
IsInNeighbour loaded (Some at) file i = IsInHeaderAt loaded at.place 24 12 file i

-- a place in the record of the mark there, where one stands
abbrev pub IsInMark : Option ℕ → FileId → ℕ → Type 0
IsInMark None file i = ⊥
IsInMark (Some place) file i = (file ≡ Jlr) × (16 * place ≤ i) × (i < 16 * place + 16)

-- a place in the record of a slot in the index
abbrev pub IsInEntry : ℕ → FileId → ℕ → Type 0
IsInEntry place file i = (file ≡ Jdx) × (8 * place ≤ i) × (i < 8 * place + 8)

-- the bytes that a change may write of those that files of the area have: the counts, and the links of the neighbour, TimesRead to Attribute of a
-- header that is read, the index record of a message that is edited, Attribute of one that is killed, the links of a relink; or the record of a
-- mark
abbrev pub MayWrite : Loaded → Change → FileId → ℕ → Type 0
MayWrite loaded Nothing file i = ⊥
MayWrite loaded (Posted message neighbour) file i = IsInCounts file i ⊎ IsInNeighbour loaded neighbour file i
MayWrite loaded (Headed at) file i = IsInCounts file i ⊎ IsInHeaderAt loaded at.place 12 44 file i
MayWrite loaded (Edited place message) file i = IsInCounts file i ⊎ IsInEntry place file i
MayWrite loaded (Killed place) file i = IsInCounts file i ⊎ IsInHeaderAt loaded place 52 4 file i
MayWrite loaded (Relinked plan) file i = IsInCounts file i ⊎ IsInLinks loaded file i
MayWrite loaded (Marked place mark) file i = IsInMark place file i
MayWrite loaded (Packed plan base) file i = Unit {0}

-- each byte that files of the area have stays as it is, but those
abbrev pub LeavesBut : RedoView → Loaded → (FileId → ℕ → Type 0) → Type 0
LeavesBut redo loaded places = (files : Files) → Loads loaded files → (file : FileId) (i : ℕ) → i < length (files file)
    → places file i ⊎ (slice_index (changed redo files file) i ≡ slice_index (files file) i)

-- but for a post, an edit and a pack the index of the files stays as it is: each record of it, and how many there are
abbrev pub KeepsIndex : RedoView → Loaded → Change → Type 0
KeepsIndex redo loaded (Posted message neighbour) = Unit {0}
KeepsIndex redo loaded (Edited place message) = Unit {0}
KeepsIndex redo loaded (Packed plan base) = Unit {0}
KeepsIndex redo loaded _ = (files : Files) → Loads loaded files → changed redo files Jdx ≡ files Jdx

-- what the change leaves as it is
pub record LeavesRest (redo : RedoView) (loaded : Loaded) (change : Change) : Type 0 where
  pub bytes : LeavesBut redo loaded (MayWrite loaded change)
  pub index : KeepsIndex redo loaded change

-- a kill leaves the index so
abbrev pub KeepsIndexOnKill : RedoView → Loaded → Change → Type 0
KeepsIndexOnKill redo loaded (Killed place) = KeepsIndex redo loaded (Killed place)
KeepsIndexOnKill redo loaded _ = Unit {0}
