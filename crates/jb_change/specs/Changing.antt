-- What one small change more makes of what a change makes.
use Rattle.std.specs.Prelude.{◌≡◌, ℕ, ◌+◌, ◌<◌, ◌≤◌, ◌^◌, List, [], ◌∷◌, ◌++◌, length, slice_set}
use Rattle.jb_disk.specs.RedoView.{RedoView}
use Rattle.jb_disk.specs.declared.file.FileId.{FileId}
use Rattle.jb_disk.specs.declared.piece.Piece.TheVariants.{Bytes}
use Rattle.jb_disk.specs.declared.file.FileId.TheVariants.{Jhr}
use Rattle.jb_disk.specs.Files.{Files, InFile}
use Rattle.jb_disk.specs.Steps.{Torn}
use Rattle.jb_image.specs.Places.{header_in}
use Rattle.jb_state.specs.Loaded.{IsMessageAt, with_head_at, with_marks}
use Rattle.jb_state.specs.declared.loaded.Loaded.{Loaded}
use Rattle.jb_state.specs.declared.loaded.LoadedMessage.{LoadedMessage}
use Rattle.jb_state.specs.declared.mark.Mark.{Mark}
use Rattle.jb_state.specs.declared.message.Head.{Head}
use Rattle.jb_record.specs.declared.message.MessageHeader.{MessageHeader}
use Rattle.jb_change.specs.Makes.{Makes}
use Rattle.jb_redo.specs.Changes.{changed}

-- where the change made an area, it now makes that area changed so
abbrev pub ChangesArea : RedoView → RedoView → (Loaded → Loaded) → Type 0
ChangesArea old new act = (from to : Loaded) (text : List ℕ) → Makes old from to text → Makes new from (act to) text

-- where it made an area with a live message whose header stands at this place, it now makes that area with the message so
abbrev pub ChangesMessage : RedoView → RedoView → ℕ → (ℕ → LoadedMessage → Loaded → Loaded) → Type 0
ChangesMessage old new at act = (from to : Loaded) (text : List ℕ) (place : ℕ) (message : LoadedMessage)
    → Makes old from to text → IsMessageAt to place message → message.header_at ≡ at → Makes new from (act place message to) text

-- where it made an area with such a message, it now makes that area with the fields of the message's header changed so
abbrev pub ChangesHead : RedoView → RedoView → ℕ → (Head → Head) → Type 0
ChangesHead old new at act = ChangesMessage old new at (λ place message. with_head_at place (act message.head) message)

-- where the change made an area with a mark at this place, it now makes that area with another mark there
abbrev pub ChangesMark : RedoView → RedoView → ℕ → Mark → Type 0
ChangesMark old new place mark = (from to : Loaded) (text : List ℕ) → Makes old from to text → place < length to.marks
    → Makes new from (with_marks (slice_set to.marks place mark) to) text

-- of the header at this place, where .JHR reaches so far, the numbers are changed so
abbrev pub ChangesHeader : RedoView → RedoView → ℕ → (MessageHeader → MessageHeader) → Type 0
ChangesHeader old new at act = (files : Files) → at + 76 ≤ length (changed old files Jhr)
    → header_in (changed new files) at ≡ act (header_in (changed old files) at)

-- in the files that the change makes, no byte outside this range of this file is another
abbrev pub WritesOnly : RedoView → RedoView → FileId → ℕ → ℕ → Type 0
WritesOnly old new file at len = (files : Files) → at + len ≤ length (changed old files file)
    → InFile file (Torn at len) (changed old files) (changed new files)

-- a message's fields with other links
abbrev pub head_with_links : ℕ → ℕ → ℕ → Head → Head
head_with_links reply_to first next head = record head { reply_to = reply_to; reply_first = first; reply_next = next }

-- a header with other links
abbrev pub header_with_links : ℕ → ℕ → ℕ → MessageHeader → MessageHeader
header_with_links reply_to first next header = record header { reply_to = reply_to; reply_first = first; reply_next = next }

-- a message's fields with the traces of a reading: how often it was read, when its receiver did, and the attribute
abbrev pub head_with_reading : Head → Head → Head
head_with_reading reading head = record head { times_read = reading.times_read; received = reading.received; attribute = reading.attribute }

-- a header with the traces of a reading
abbrev pub header_with_reading : Head → MessageHeader → MessageHeader
header_with_reading reading header = record header { times_read = reading.times_read; received = reading.received; attribute = reading.attribute }

-- a header with another attribute
abbrev pub header_with_attribute : ℕ → MessageHeader → MessageHeader
header_with_attribute attribute header = record header { attribute = attribute }

-- a piece of these bytes more, behind the others
pub record Puts (file : FileId) (at : ℕ) (bytes : List ℕ) (old new : RedoView) : Type 0 where
  pub lengths : new.lengths ≡ old.lengths
  pub pieces : new.pieces ≡ old.pieces ++ Bytes file at bytes ∷ []
  pub few : length new.pieces < 2 ^ 32

-- a change of nothing makes of each area the same one
abbrev pub MakesNothing : Type 0
MakesNothing = (change : RedoView) (loaded : Loaded) → change.lengths ≡ [] → change.pieces ≡ [] → Makes change loaded loaded []
