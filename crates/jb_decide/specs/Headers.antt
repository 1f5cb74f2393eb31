-- Where the headers of an area stand, and the numbers in them.
use Rattle.std.specs.Prelude.{◌≡◌, ◌⊎◌, ℕ, ◌≤◌, length}
use Rattle.jb_change.specs.Headers.{KeepsNumbersBut, KeepsPlacesBut}
use Rattle.jb_change.specs.Put.{IsMoved}
use Rattle.jb_disk.specs.Files.{Files}
use Rattle.jb_disk.specs.declared.file.FileId.TheVariants.{Jdt, Jhr}
use Rattle.jb_image.specs.Places.{header_in}
use Rattle.jb_state.specs.Loaded.{IsMessageAt}
use Rattle.jb_state.specs.declared.change.Change.{Change}
use Rattle.jb_state.specs.declared.loaded.Loaded.{Loaded}
use Rattle.jb_state.specs.declared.loaded.LoadedMessage.{LoadedMessage}
use Rattle.jb_model.specs.declared.reply.Reply.{Reply}
use Rattle.jb_model.specs.declared.reply.Reply.TheVariants.{Edited, Packed, Posted}
use Rattle.jb_pack.specs.Standing.{StandTogether}

-- the reply says that the message of this number was posted, or was edited
abbrev pub NamesWritten : Reply → ℕ → Type 0
NamesWritten (Posted posted) number = posted ≡ number
NamesWritten (Edited edited) number = edited ≡ number
NamesWritten _ number = ⊥

-- the message's header begins where .JHR ended and its text where .JDT ended, and its MessageNumber is the number in the reply
pub record StandsBehind (reply : Reply) (message : LoadedMessage) (old new : Files) : Type 0 where
  pub header_at : message.header_at ≡ length (old Jhr)
  pub text_at : message.text_at ≡ length (old Jdt)
  pub numbered : NamesWritten reply (header_in new message.header_at).number

-- no header of an area is moved or gets another MessageNumber, but that of the message that the change edits; this one, and a message
-- that the area did not have, stands behind the others
pub record KeepsHeaders (change : Change) (reply : Reply) (from to : Loaded) (old new : Files) : Type 0 where
  pub places : KeepsPlacesBut (IsMoved change) from to
  pub numbers : KeepsNumbersBut (IsMoved change) from old new
  pub behind : (place : ℕ) (message : LoadedMessage) → IsMoved change place ⊎ (length from.slots ≤ place) → IsMessageAt to place message → StandsBehind reply message old new

-- after a pack that was done the live messages stand one behind another, headers from 1,024 on and texts from 0 on, each with
-- its number in its header
abbrev pub PacksHeaders : Reply → Loaded → Files → Type 0
PacksHeaders (Packed base live dropped) to files = StandTogether files to.base 1024 0 to.slots
PacksHeaders _ to files = Unit {0}
