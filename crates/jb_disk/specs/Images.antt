-- What a crash may leave of the files, from what was synced and what came since.
use Rattle.std.specs.Prelude.{◌≡◌, ◌⊎◌, ℕ, ◌+◌, ◌<◌, ◌≤◌, ◌==◌, min, max, List, [], ◌∷◌, length, slice_index, if◌then◌else◌}
use Rattle.jb_disk.specs.declared.file.FileId.{FileId}
use Rattle.jb_disk.specs.Files.{Files, file_number}

-- places in a file: so many from one on
pub record Range : Type 0 where
  pub at : ℕ
  pub len : ℕ

-- a file since its last sync: its bytes then, the ranges written, and the least and the greatest length
pub record Unsynced : Type 0 where
  pub synced : List ℕ
  pub ranges : List Range
  pub least : ℕ
  pub greatest : ℕ

-- some range has this place
abbrev pub IsWritten : List Range → ℕ → Type 0
IsWritten [] i = ⊥
IsWritten (range ∷ ranges) i = ((range.at ≤ i) × (i < range.at + range.len)) ⊎ IsWritten ranges i

-- a crash may leave these bytes of the file: any length between, any bytes in the ranges and from the least length on
pub record IsLeft (file : Unsynced) (bytes : List ℕ) : Type 0 where
  pub no_shorter : file.least ≤ length bytes
  pub no_longer : length bytes ≤ file.greatest
  pub same : (i : ℕ) → i < file.least → IsWritten file.ranges i ⊎ (slice_index bytes i ≡ slice_index file.synced i)

-- a file just synced
abbrev pub just_synced : List ℕ → Unsynced
just_synced bytes = record { synced = bytes; ranges = []; least = length bytes; greatest = length bytes }

-- and after a write of so many bytes at a place
abbrev pub torn : ℕ → ℕ → Unsynced → Unsynced
torn at len file = record { synced = file.synced; ranges = record { at = at; len = len } ∷ file.ranges; least = file.least; greatest = file.greatest }

-- and after a change of its length
abbrev pub cut : ℕ → Unsynced → Unsynced
cut len file = record { synced = file.synced; ranges = file.ranges; least = min file.least len; greatest = max file.greatest len }

-- what a crash at one moment may leave of each file
abbrev pub Images : Type 0
Images = FileId → Unsynced

-- these files are among what it may leave
abbrev pub IsImage : Images → Files → Type 0
IsImage images files = (file : FileId) → IsLeft (images file) (files file)

-- the same, but for one file
abbrev pub with_image : FileId → (Unsynced → Unsynced) → Images → Images
with_image file change images other = if file_number other == file_number file then change (images other) else images other
