-- The moments of a run, the newest first.
use Rattle.std.specs.Prelude.{◌⊎◌, List, [], ◌∷◌}
use Rattle.jb_disk.specs.Files.{Files}
use Rattle.jb_disk.specs.Images.{Images, IsImage}

-- the newest of these moments, where there is one, has this property
abbrev pub AtNewest : (Images → Type 0) → List Images → Type 0
AtNewest property [] = Unit {0}
AtNewest property (now ∷ earlier) = property now

-- each of them has it
abbrev pub AtEach : (Images → Type 0) → List Images → Type 0
AtEach property [] = Unit {0}
AtEach property (now ∷ earlier) = property now × AtEach property earlier

-- there are files that a crash may leave
pub record IsPossible (images : Images) : Type 0 where
  pub files : Files
  pub image : IsImage images files

-- at one of these moments a crash might have left these files
abbrev pub MightLeave : List Images → Files → Type 0
MightLeave [] files = ⊥
MightLeave (now ∷ earlier) files = IsImage now files ⊎ MightLeave earlier files
