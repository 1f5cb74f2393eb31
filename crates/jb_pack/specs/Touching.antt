-- Calls of a disk that touch .NDT alone.
use Rattle.std.specs.Prelude.{◌≡◌, ◌≢◌, [], ◌++◌}
use Rattle.jb_disk.specs.Device.{Device, Turns}
use Rattle.jb_disk.specs.Files.{Files}
use Rattle.jb_disk.specs.Runs.{Keeps}
use Rattle.jb_disk.specs.declared.file.FileId.{FileId}
use Rattle.jb_disk.specs.declared.file.FileId.TheVariants.{Jdt, Ndt}
use Rattle.jb_image.specs.Places.{bytes_at}
use Rattle.jb_pack.specs.Shadow.{Shadow}
use Rattle.jb_pack.specs.declared.error.PackError.{PackError}
use Rattle.jb_pack.specs.declared.error.PackError.TheVariants.{OutOfMemory, StoreFault}
use Rattle.jb_pack.specs.declared.run.Run.{Run}

-- but for .NDT the files are as they were
abbrev pub AgreeButShadow : Files → Files → Type 0
AgreeButShadow before now = (file : FileId) → file ≢ Ndt → now file ≡ before file

-- the other files read as before, and what a crash leaves of them is the same at each moment
pub record TouchesShadow (old new : Device) : Type 0 where
  pub others : Turns AgreeButShadow old.contents new.contents
  pub keeps : (start : Files) → Keeps (AgreeButShadow start) old new

-- .NDT is empty now
pub record Empties (before now : Files) : Type 0 where
  pub shadow : now Ndt ≡ []
  pub others : AgreeButShadow before now

-- .NDT has the bytes of a part of .JDT behind its own now
pub record Appends (run : Run) (before now : Files) : Type 0 where
  pub shadow : now Ndt ≡ before Ndt ++ bytes_at run.at run.len (before Jdt)
  pub others : AgreeButShadow before now

-- without memory the device is as it was
abbrev pub IsUntouched : Device → Device → PackError → Type 0
IsUntouched old new StoreFault = Unit {0}
IsUntouched old new OutOfMemory = new ≡ old

-- without memory the copies and the device are as they were
abbrev pub StaysUnlessFault : Shadow → Shadow → Device → Device → PackError → Type 0
StaysUnlessFault was now old new StoreFault = Unit {0}
StaysUnlessFault was now old new OutOfMemory = (now ≡ was) × (new ≡ old)
