-- Which of the files that a crash may leave a test asks for.
use Rattle.std.specs.Prelude.{◌≡◌, ◌⊎◌, ℕ, zero, suc, ◌<◌, ◌≤◌, List, length, take, reverse, slice_index}
use Rattle.jb_disk.specs.declared.call.Call.{Call}
use Rattle.jb_disk.specs.Files.{Files}
use Rattle.jb_disk.specs.Images.{Unsynced, Images, IsWritten}
use Rattle.jb_disk.specs.Memory.{Recording, files_of_list, contents_after, images_after}

-- a file of the greatest length, with A5 in each byte that a crash leaves open
pub record IsMarred (file : Unsynced) (bytes : List ℕ) : Type 0 where
  pub longest : length bytes ≡ file.greatest
  pub spoilt : (i : ℕ) → i < file.greatest → IsWritten file.ranges i ⊎ (file.least ≤ i) → slice_index bytes i ≡ 0xA5
  pub kept : (i : ℕ) → i < file.least → (IsWritten file.ranges i → ⊥) → slice_index bytes i ≡ slice_index file.synced i

-- by the number of the pick: as synced, as written, marred, or as written and cut to the least length
abbrev pub IsPicked : ℕ → Unsynced → List ℕ → List ℕ → Type 0
IsPicked zero file written bytes = bytes ≡ file.synced
IsPicked (suc zero) file written bytes = bytes ≡ written
IsPicked (suc (suc zero)) file written bytes = IsMarred file bytes
IsPicked (suc (suc (suc more))) file written bytes = bytes ≡ take file.least written

-- the first so many calls, the newest first
abbrev pub first_calls : ℕ → Recording → List Call
first_calls after disk = reverse (take after disk.calls)

-- what a crash might have left after so many calls
abbrev pub images_at : ℕ → Recording → Images
images_at after disk = images_after (files_of_list disk.first) (first_calls after disk)

-- what a read gave after so many calls
abbrev pub contents_at : ℕ → Recording → Files
contents_at after disk = contents_after (files_of_list disk.first) (first_calls after disk)
