-- Runs of calls of a disk, and what a crash at any moment of one may leave.
use Rattle.std.specs.Prelude.{◌≡◌, List, ◌++◌}
use Rattle.std.specs.Option.{ForSome}
use Rattle.jb_disk.specs.Files.{Files}
use Rattle.jb_disk.specs.Images.{Images, IsImage}
use Rattle.jb_disk.specs.Device.{Device}
use Rattle.jb_disk.specs.Moments.{AtNewest, AtEach}

-- a crash leaves only files with this property
abbrev pub Leaves : (Files → Type 0) → Images → Type 0
Leaves property images = (files : Files) → IsImage images files → property files

-- so it is at the newest of these moments
abbrev pub LeavesNow : (Files → Type 0) → List Images → Type 0
LeavesNow property moments = AtNewest (Leaves property) moments

-- so it is at each of them
abbrev pub LeavesAlways : (Files → Type 0) → List Images → Type 0
LeavesAlways property moments = AtEach (Leaves property) moments

-- moments have come, and a crash at each of them leaves only files with this property
pub record Runs (property : Files → Type 0) (old new : List Images) : Type 0 where
  pub later : List Images
  pub since : new ≡ later ++ old
  pub only : LeavesAlways property later

-- a crash at any moment from the old device to the new one leaves only files with this property
pub record LeavesOnly (old new : Device) (property : Files → Type 0) : Type 0 where
  pub first : LeavesNow property old.moments
  pub run : Runs property old.moments new.moments

-- what is read and what a crash now may leave has this property, where the disk tells it
pub record Shows (property : Files → Type 0) (device : Device) : Type 0 where
  pub read : ForSome device.contents property
  pub left : LeavesNow property device.moments

-- the property is kept, at each moment of the run
pub record Keeps (property : Files → Type 0) (old new : Device) : Type 0 where
  pub shows : Shows property old → Shows property new
  pub run : Shows property old → Runs property old.moments new.moments

-- nothing is unsynced: a crash leaves what is read
abbrev pub IsAllSynced : Device → Type 0
IsAllSynced device = ForSome device.contents (λ files. LeavesNow (λ left. left ≡ files) device.moments)
