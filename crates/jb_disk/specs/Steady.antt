-- A disk in memory that tells what it holds, and no images.
use Rattle.std.specs.Prelude.{◌≡◌, [], ◌∷◌, List, Some}
use Rattle.jb_disk.specs.declared.steady.SteadyDisk.{SteadyDisk}
use Rattle.jb_disk.specs.Images.{Images}
use Rattle.jb_disk.specs.Device.{Device, TellsAnImage}
use Rattle.jb_disk.specs.Memory.{files_of}

-- the device that a steady disk is
abbrev pub steady_device : SteadyDisk → Device
steady_device disk = record { faults = disk.faults; contents = Some (files_of disk.present); moments = [] }

-- six empty files of a device that tells no images
abbrev pub empty_device : Device
empty_device = record { faults = 0; contents = Some (λ file. []); moments = [] }

-- it tells no image
pub tells_no_image : (disk : SteadyDisk) → TellsAnImage (steady_device disk)
tells_no_image disk = record { read = λ files now earlier contents moments. absurd (no_moment now earlier moments); both = λ contents. cc; each = tt }
  where
    no_moment : (now : Images) (earlier : List Images) → [] ≡ now ∷ earlier → ⊥
    no_moment now earlier is = cc
