-- How the bytes of a file are copied.
use Rattle.std.specs.Prelude.{◌≡◌, ◌≢◌, ℕ, ◌<◌, ◌≤◌, List, length, slice_index, Option}
use Rattle.std.specs.Option.{ForSome}
use Rattle.jb_disk.specs.declared.file.FileId.{FileId}
use Rattle.jb_disk.specs.declared.file.FileId.TheVariants.{Jhr}
use Rattle.jb_disk.specs.Device.{Device}
use Rattle.jb_disk.specs.Files.{Files, file_number}
use Rattle.jb_disk.specs.Runs.{Keeps}
use Rattle.jb_backup.specs.Target.{IsSameFrom, backed_up}

-- a place of a file of the base, behind the first byte of the headers
pub record IsCopyable (file : FileId) (from : ℕ) : Type 0 where
  pub base : file_number file < 4
  pub behind : file ≡ Jhr → 1 ≤ from

-- the other files keep what is true of their bytes, at each moment
abbrev pub LeavesOthers : FileId → Device → Device → Type 0
LeavesOthers file old new = (other : FileId) → other ≢ file → (from : ℕ) (good : List ℕ) → Keeps (λ files. IsSameFrom from good (files other)) old new

-- a file of the same length that has these bytes from one place up to another, and is as before below
pub record IsFilled (from end : ℕ) (good before now : List ℕ) : Type 0 where
  pub size : length now ≡ length before
  pub front : (i : ℕ) → i < from → slice_index now i ≡ slice_index before i
  pub filled : (i : ℕ) → from ≤ i → i < end → slice_index now i ≡ slice_index good i

-- up to here a file has the bytes that its backup will have, but for the first so many
pub record HasBytes (least from : ℕ) (good before : List ℕ) : Type 0 where
  pub within : from ≤ length good
  pub same : (i : ℕ) → least ≤ i → i < from → slice_index before i ≡ slice_index good i

-- so it is where the target tells
abbrev pub HasGood : ℕ → ℕ → FileId → Files → Option Files → Type 0
HasGood least from file source target = ForSome target (λ files. HasBytes least from (backed_up source file) (files file))
