-- Messages that stand in the files one behind another.
use Rattle.std.specs.Prelude.{◌≡◌, ℕ, ◌+◌, List, [], ◌∷◌, length}
use Rattle.jb_disk.specs.Files.{Files}
use Rattle.jb_disk.specs.declared.file.FileId.TheVariants.{Jdt, Jhr}
use Rattle.jb_image.specs.Places.{header_in}
use Rattle.jb_state.specs.Loaded.{header_size}
use Rattle.jb_state.specs.declared.loaded.LoadedMessage.{LoadedMessage}
use Rattle.jb_state.specs.declared.loaded.LoadedSlot.{LoadedSlot}
use Rattle.jb_state.specs.declared.loaded.LoadedSlot.TheVariants.{Empty, Killed, Live}

-- the message's header begins at this place of .JHR and its text at that of .JDT, and its MessageNumber is this number
pub record StandsInFiles (files : Files) (number header_at text_at : ℕ) (message : LoadedMessage) : Type 0 where
  pub header : message.header_at ≡ header_at
  pub text : message.text_at ≡ text_at
  pub numbered : (header_in files header_at).number ≡ number

-- from these places on the files have the headers and the texts of the live messages of these slots, of which the first has
-- this number, in the order of their numbers: without a gap and with nothing behind the last; no killed one is among them
abbrev pub StandTogether : Files → ℕ → ℕ → ℕ → List LoadedSlot → Type 0
StandTogether files number header_at text_at [] = (length (files Jhr) ≡ header_at) × (length (files Jdt) ≡ text_at)
StandTogether files number header_at text_at (Empty ∷ slots) = StandTogether files (number + 1) header_at text_at slots
StandTogether files number header_at text_at (Killed killed_at ∷ slots) = ⊥
StandTogether files number header_at text_at (Live message ∷ slots) =
    StandsInFiles files number header_at text_at message
    × StandTogether files (number + 1) (header_at + header_size message) (text_at + message.text_len) slots
