-- What files hold of an area, and of the copies of its texts.
use Rattle.std.specs.Prelude.{◌≡◌, ℕ, List, Option, None, Some, length}
use Rattle.std.specs.Option.{ForSome}
use Rattle.jb_disk.specs.Files.{Files}
use Rattle.jb_disk.specs.declared.file.FileId.TheVariants.{Jdt}
use Rattle.jb_image.specs.Stands.{Loads}
use Rattle.jb_state.specs.declared.loaded.Loaded.{Loaded}
use Rattle.jb_pack.specs.Shadow.{HasCopies, Shadow}

-- the files hold this area, with these bytes in the file of texts
pub record Holds (loaded : Loaded) (texts : List ℕ) (files : Files) : Type 0 where
  pub loads : Loads loaded files
  pub texts_are : files Jdt ≡ texts

-- these are as many bytes as the area has in its file of texts, and where its files are told, they are those of that file
pub record AreTexts (loaded : Loaded) (texts : List ℕ) (contents : Option Files) : Type 0 where
  pub sized : length texts ≡ loaded.texts_len
  pub told : ForSome contents (λ files. files Jdt ≡ texts)

-- what was copied of the texts stands in .NDT, where something was
abbrev pub HoldsCopies : Option Shadow → Files → Type 0
HoldsCopies None files = Unit {0}
HoldsCopies (Some shadow) files = HasCopies shadow files

-- the files hold this area with these texts, and these copies of them
pub record HoldsWith (loaded : Loaded) (texts : List ℕ) (copies : Option Shadow) (files : Files) : Type 0 where
  pub holds : Holds loaded texts files
  pub has : HoldsCopies copies files
