-- A disk that tells how often it has failed, and nothing else.
use Rattle.std.specs.Prelude.{◌≡◌, ℕ, [], None, Some}
use Rattle.jb_disk.specs.Device.{Device, TellsAnImage}
use Rattle.jb_disk.specs.Files.{Files}

-- a device with so many faults that tells no contents and no images
abbrev pub silent_device : ℕ → Device
silent_device faults = record { faults = faults; contents = None; moments = [] }

-- it tells no image
pub tells_nothing : (faults : ℕ) → TellsAnImage (silent_device faults)
tells_nothing faults = record { read = λ files now earlier contents moments. absurd (no_contents files contents); both = λ contents. cc; each = tt }
  where
    no_contents : (files : Files) → None ≡ Some files → ⊥
    no_contents files is = cc
