-- How a target is begun.
use Rattle.std.specs.Prelude.{◌≡◌, ◌⊎◌, List, [], ◌∷◌}
use Rattle.std.specs.Option.{ForSome}
use Rattle.jb_disk.specs.Device.{Device}
use Rattle.jb_disk.specs.Files.{Files}
use Rattle.jb_disk.specs.Images.{Images, IsImage}
use Rattle.jb_disk.specs.Runs.{LeavesNow, Runs}
use Rattle.jb_backup.specs.Target.{AreEmpty, IsTiny}

-- moments have come, and a crash at each of them leaves only what it might before them
abbrev pub LeavesNoMore : List Images → List Images → Type 0
LeavesNoMore [] new = new ≡ []
LeavesNoMore (now ∷ earlier) new = Runs (IsImage now) (now ∷ earlier) new

-- from these moments on a crash leaves only files of which this holds
pub record LeavesSince (holds : Files → Type 0) (old new : List Images) : Type 0 where
  pub first : LeavesNow holds old
  pub run : Runs holds old new

-- a crash leaves what it might before until the files are found empty, and from then on files of which this holds; a target that is not empty stays
pub record BeginsAs (holds : Files → Type 0) (old new : Device) : Type 0 where
  pub found : List Images
  pub before : LeavesNoMore old.moments found
  pub since : (new.moments ≡ found) ⊎ LeavesSince holds found new.moments
  pub full : ForSome old.contents (λ files. (AreEmpty files → ⊥) → new.moments ≡ found)

-- so it is, and from then on a tiny target
abbrev pub BeginsTiny : Device → Device → Type 0
BeginsTiny = BeginsAs IsTiny
