-- The lengths of the files, as they are read once.
use Rattle.std.specs.Prelude.{◌≡◌, length}
use Rattle.jb_disk.specs.Files.{Files}
use Rattle.jb_disk.specs.declared.file.FileId.TheVariants.{Jhr, Jdt, Jdx, Jlr}
use Rattle.jb_image.specs.declared.lengths.Lengths.{Lengths}

-- these are the lengths of the files
pub record AreLengths (lengths : Lengths) (files : Files) : Type 0 where
  pub headers : lengths.headers ≡ length (files Jhr)
  pub texts : lengths.texts ≡ length (files Jdt)
  pub index : lengths.index ≡ length (files Jdx)
  pub lastread : lengths.lastread ≡ length (files Jlr)
