-- Changes that leave all that files hold, and only write behind it.
use Rattle.std.specs.Prelude.{◌≡◌, length, take}
use Rattle.jb_redo.specs.Changes.{changed}
use Rattle.jb_disk.specs.RedoView.{RedoView}
use Rattle.jb_disk.specs.Files.{Files}
use Rattle.jb_disk.specs.declared.file.FileId.{FileId}
use Rattle.jb_image.specs.Stands.{Loads}
use Rattle.jb_state.specs.declared.loaded.Loaded.{Loaded}

-- every byte that files of this area have stays as it is, also one that no slot and no mark shows
abbrev pub AppendsOnly : RedoView → Loaded → Type 0
AppendsOnly change loaded = (files : Files) → Loads loaded files → (file : FileId) → take (length (files file)) (changed change files file) ≡ files file
