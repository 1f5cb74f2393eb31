-- What six files hold and what a crash may leave, from what they held at first and the calls since.
use Rattle.std.specs.Prelude.{◌≡◌, ◌⊎◌, ℕ, ◌+◌, ◌-◌, nat_le, List, [], ◌∷◌, ◌++◌, length, take, replicate, reverse, get_or, Contains, Some, if◌then◌else◌, ◌&&◌}
use Rattle.jb_disk.specs.declared.file.FileId.TheVariants.{Jhr, Jdt, Jdx, Jlr, Jnl, Ndt}
use Rattle.jb_disk.specs.declared.call.Call.{Call}
use Rattle.jb_disk.specs.declared.call.Call.TheVariants.{NoChange, Wrote, Resized, Synced}
use Rattle.jb_disk.specs.declared.six.Six.{Six}
use Rattle.jb_disk.specs.Files.{Files, file_number, with_file, written}
use Rattle.jb_disk.specs.Images.{Images, just_synced, torn, cut, with_image}
use Rattle.jb_disk.specs.Device.{Device}

-- six byte strings, in the order of the files' numbers
abbrev pub files_of_list : List (List ℕ) → Files
files_of_list strings file = get_or strings (file_number file) []

-- the bytes that six vectors hold
abbrev pub files_of : Six → Files
files_of six Jhr = six.jhr.items
files_of six Jdt = six.jdt.items
files_of six Jdx = six.jdx.items
files_of six Jlr = six.jlr.items
files_of six Jnl = six.jnl.items
files_of six Ndt = six.ndt.items

-- a file cut, or with zeros behind it
unfoldable pub of_length : ℕ → List ℕ → List ℕ
of_length len old = take len old ++ replicate (len - length old) 0

-- what a read gives after these calls, the newest first
abbrev pub contents_after : Files → List Call → Files
contents_after first [] = first
contents_after first (NoChange ∷ earlier) = contents_after first earlier
contents_after first (Wrote file at bytes done ∷ earlier) =
    if done && nat_le (at + length bytes.items) (length (contents_after first earlier file)) then written file at bytes.items (contents_after first earlier) else contents_after first earlier
contents_after first (Resized file len done ∷ earlier) =
    if done then with_file file (of_length len (contents_after first earlier file)) (contents_after first earlier) else contents_after first earlier
contents_after first (Synced file ∷ earlier) = contents_after first earlier

-- what a crash may leave after them
abbrev pub images_after : Files → List Call → Images
images_after first [] = λ file. just_synced (first file)
images_after first (NoChange ∷ earlier) = images_after first earlier
images_after first (Wrote file at bytes done ∷ earlier) = with_image file (torn at (length bytes.items)) (images_after first earlier)
images_after first (Resized file len done ∷ earlier) = with_image file (cut len) (images_after first earlier)
images_after first (Synced file ∷ earlier) = with_image file (λ _. just_synced (contents_after first earlier file)) (images_after first earlier)

-- what it might have left before the last of them that counts as a change, and before that, the newest first
abbrev pub earlier_after : Files → List Call → List Images
earlier_after first [] = []
earlier_after first (NoChange ∷ earlier) = earlier_after first earlier
earlier_after first (Wrote file at bytes done ∷ earlier) = images_after first earlier ∷ earlier_after first earlier
earlier_after first (Resized file len done ∷ earlier) = images_after first earlier ∷ earlier_after first earlier
earlier_after first (Synced file ∷ earlier) = images_after first earlier ∷ earlier_after first earlier

-- the same calls, or one more that changed nothing
abbrev pub IsQuiet : List Call → List Call → Type 0
IsQuiet old new = (new ≡ old) ⊎ (new ≡ old ++ NoChange ∷ [])

-- a disk in memory, as contracts see it: what it held at first, synced, its calls since in order, its count of faults, and the numbers, from 1, of the calls that it was told to fail
pub record Recording : Type 0 where
  pub first : List (List ℕ)
  pub calls : List Call
  pub faults : ℕ
  pub failing : List ℕ

-- the disk was told to fail the call that comes next
abbrev pub FailsNext : Recording → Type 0
FailsNext disk = Contains disk.failing (length disk.calls + 1)

-- a fault may refuse a call that the disk was told to fail, and one that it has no memory to keep
abbrev pub MayFail : Recording → Recording → Type 0
MayFail old new = FailsNext old ⊎ (new.calls ≡ old.calls)

-- the device that has been called so
abbrev pub device_after : Files → List Call → ℕ → Device
device_after first calls faults = record {
  faults = faults;
  contents = Some (contents_after first calls);
  moments = images_after first calls ∷ earlier_after first calls;
}

-- the device that a disk in memory is
abbrev pub memory_device : Recording → Device
memory_device disk = device_after (files_of_list disk.first) (reverse disk.calls) disk.faults

-- a device that holds these files, each of them synced, and has done nothing yet
abbrev pub fresh_device : Files → Device
fresh_device files = record {
  faults = 0;
  contents = Some files;
  moments = (λ file. just_synced (files file)) ∷ [];
}
