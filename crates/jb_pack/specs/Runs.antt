-- Parts of a file that are read at once, and those of .NDT that are copied into .JDT.
use Rattle.std.specs.Prelude.{◌≡◌, ◌⊎◌, ℕ, ◌+◌, ◌≤◌, List, [], ◌∷◌, ◌++◌, sum_by}
use Rattle.jb_disk.specs.declared.file.FileId.TheVariants.{Jdt, Ndt}
use Rattle.jb_disk.specs.declared.piece.Piece.{Piece}
use Rattle.jb_disk.specs.declared.piece.Piece.TheVariants.{Copy}
use Rattle.jb_image.specs.Places.{bytes_at}
use Rattle.jb_pack.specs.declared.run.Run.{Run}
use Rattle.jb_pack.specs.declared.run.TheConstants.{PACK_STEP_BYTES}

-- the part ends at or before this place, and is read at once
pub record IsRun (end : ℕ) (run : Run) : Type 0 where
  pub inside : run.at + run.len ≤ end
  pub short : run.len ≤ PACK_STEP_BYTES

-- the same, or it has no byte
pub record IsRunPlaced (end : ℕ) (run : Run) : Type 0 where
  pub inside : (run.len ≡ 0) ⊎ (run.at + run.len ≤ end)
  pub short : run.len ≤ PACK_STEP_BYTES

-- the one part, and the next one right behind it
pub record IsJoined (run next more : Run) : Type 0 where
  pub size : more.len ≡ run.len + next.len
  pub bytes : (file : List ℕ) → bytes_at more.at more.len file ≡ bytes_at run.at run.len file ++ bytes_at next.at next.len file

-- a copy of each part of .NDT, behind that before it, from this place of .JDT on
abbrev pub copies_of : ℕ → List Run → List Piece
copies_of at [] = []
copies_of at (run ∷ runs) = Copy Ndt run.at Jdt at run.len ∷ copies_of (at + run.len) runs

-- the bytes of the parts, one behind another
abbrev pub bytes_in : List ℕ → List Run → List ℕ
bytes_in file [] = []
bytes_in file (run ∷ runs) = bytes_at run.at run.len file ++ bytes_in file runs

-- how many bytes they have
abbrev pub runs_size : List Run → ℕ
runs_size runs = sum_by (λ run. run.len) runs
