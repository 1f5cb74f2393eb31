-- What a change of the files makes of the area that they hold.
use Rattle.std.specs.Prelude.{◌≡◌, ℕ, List, ◌++◌}
use Rattle.jb_disk.specs.RedoView.{RedoView}
use Rattle.jb_disk.specs.Files.{Files}
use Rattle.jb_disk.specs.declared.file.FileId.TheVariants.{Jdt}
use Rattle.jb_image.specs.Stands.{Loads}
use Rattle.jb_state.specs.declared.loaded.Loaded.{Loaded}
use Rattle.jb_redo.specs.Changes.{Brings}

-- the files then hold this area, with these bytes behind the texts
pub record HoldsBehind (loaded : Loaded) (text : List ℕ) (files now : Files) : Type 0 where
  pub loads : Loads loaded now
  pub texts : now Jdt ≡ files Jdt ++ text

-- of files that hold this area it makes files that hold that one, with these bytes behind the texts
abbrev pub Makes : RedoView → Loaded → Loaded → List ℕ → Type 0
Makes change from to text = Brings change (Loads from) (HoldsBehind to text)
