-- What the calls of each stage do to the disk.
use Rattle.std.specs.Prelude.{◌≡◌, ℕ, ◌≤◌, List, ◌∷◌, ◌++◌, length, take, drop, Option, Result, Ok, Err}
use Rattle.std.specs.Option.{ForSome}
use Rattle.jb_disk.specs.declared.file.FileId.{FileId}
use Rattle.jb_disk.specs.Files.{Files, written}
use Rattle.jb_disk.specs.Images.{Images, IsImage}
use Rattle.jb_disk.specs.Moments.{AtNewest, AtEach}

-- a file reaches to this place, where the disk tells
abbrev pub Reaches : Option Files → FileId → ℕ → Type 0
Reaches contents file end = ForSome contents (λ files. end ≤ length (files file))

-- moments have come, and at each of them a crash may leave what it might leave before
pub record Widens (old new : List Images) : Type 0 where
  pub until : List Images
  pub all : new ≡ until ++ old
  pub wide : (files : Files) → AtNewest (λ now. IsImage now files) old → AtEach (λ now. IsImage now files) until

-- a part of a file copied over another's bytes
abbrev pub copied_over : FileId → ℕ → FileId → ℕ → ℕ → Files → Files
copied_over from from_at to to_at len files = written to to_at (take len (drop from_at (files from))) files

-- the last of the moments that have come may leave less; at the others a crash may leave what it might leave before
pub record WidensThen (old new : List Images) : Type 0 where
  pub until : List Images
  pub last : Images
  pub all : new ≡ last ∷ until ++ old
  pub wide : (files : Files) → AtNewest (λ now. IsImage now files) old → AtEach (λ now. IsImage now files) until

-- what the writing of the gate makes of the moments
abbrev pub WidensFor : {T E : Type 0} → Result T E → List Images → List Images → Type 0
WidensFor (Ok value) old new = WidensThen old new
WidensFor (Err error) old new = Widens old new

-- at most so many moments have come
pub record Adds (most : ℕ) (old new : List Images) : Type 0 where
  pub added : List Images
  pub since : new ≡ added ++ old
  pub few : length added ≤ most
