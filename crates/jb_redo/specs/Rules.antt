-- The rules that a record keeps over files of given lengths; each version of the journal has its own limits.
use Rattle.std.specs.Prelude.{◌≡◌, ℕ, ◌+◌, ◌^◌, ◌<◌, ◌≤◌, ◌==◌, List, [], ◌∷◌, length, All, AllPairs, if◌then◌else◌}
use Rattle.jb_disk.specs.declared.file.FileId.{FileId}
use Rattle.jb_disk.specs.declared.file.FileId.TheVariants.{Jdt, Ndt}
use Rattle.jb_disk.specs.declared.piece.Length.{Length}
use Rattle.jb_disk.specs.declared.piece.Piece.{Piece}
use Rattle.jb_disk.specs.declared.piece.Piece.TheVariants.{Bytes, Copy}
use Rattle.jb_disk.specs.declared.version.Version.{Version}
use Rattle.jb_disk.specs.declared.version.Version.TheVariants.{One, Two}
use Rattle.jb_disk.specs.Files.{Files, file_number, ceiling_of, first_ceiling_of}

-- a place or a length in a record is below this
abbrev pub bound_of : Version → ℕ
bound_of One = 2 ^ 32
bound_of Two = 2 ^ 64

-- the greatest length that a record gives a file
abbrev pub most_of : Version → FileId → ℕ
most_of One file = first_ceiling_of file
most_of Two file = ceiling_of file

-- the number of a change: the first version has none, which is told as 0
abbrev pub IsChangeNumber : Version → ℕ → Type 0
IsChangeNumber One change = change ≡ 0
IsChangeNumber Two change = change < 2 ^ 64

-- the lengths of these files
abbrev pub sizes_of : Files → FileId → ℕ
sizes_of files file = length (files file)

-- the files' lengths after one of them is set
abbrev pub with_size : Length → (FileId → ℕ) → FileId → ℕ
with_size entry sizes file = if file_number file == file_number entry.file then entry.len else sizes file

-- and after all of these are set, in order
abbrev pub new_sizes : List Length → (FileId → ℕ) → FileId → ℕ
new_sizes [] sizes = sizes
new_sizes (entry ∷ lengths) sizes = new_sizes lengths (with_size entry sizes)

-- a new length of one of the four files of the base, at most the greatest of that file
pub record IsLegalLength (version : Version) (entry : Length) : Type 0 where
  pub of_base : file_number entry.file < 4
  pub ceiling : entry.len ≤ most_of version entry.file

-- of two new lengths the later one is of a later file
abbrev pub IsBefore : Length → Length → Type 0
IsBefore entry later = file_number entry.file < file_number later.file

-- given bytes of a piece: they go into a file of the base, and end at or below its length, which may be new
pub record AreLegalBytes (version : Version) (ends : FileId → ℕ) (file : FileId) (at : ℕ) (bytes : List ℕ) : Type 0 where
  pub of_base : file_number file < 4
  pub place : at < bound_of version
  pub size : length bytes < bound_of version
  pub within : at + length bytes ≤ ends file

-- a copy: from the shadow of the texts, within it, into the texts, and ends at or below their length, which may be new
pub record IsLegalCopy (version : Version) (sizes ends : FileId → ℕ) (from : FileId) (from_at : ℕ) (to : FileId) (to_at len : ℕ) : Type 0 where
  pub shadow : from ≡ Ndt
  pub texts : to ≡ Jdt
  pub place : to_at < bound_of version
  pub source : from_at < bound_of version
  pub size : len < bound_of version
  pub inside : from_at + len ≤ sizes from
  pub within : to_at + len ≤ ends to

-- a piece that may stand in a record: over files of these lengths now, and of those once the new lengths are set
abbrev pub IsLegalPiece : Version → (FileId → ℕ) → (FileId → ℕ) → Piece → Type 0
IsLegalPiece version sizes ends (Bytes file at bytes) = AreLegalBytes version ends file at bytes
IsLegalPiece version sizes ends (Copy from from_at to to_at len) = IsLegalCopy version sizes ends from from_at to to_at len

-- a record's lengths: four at most, each file once at most, in the order of the files
pub record AreLegalLengths (version : Version) (lengths : List Length) : Type 0 where
  pub few : length lengths ≤ 4
  pub each : All (IsLegalLength version) lengths
  pub rising : AllPairs IsBefore lengths

-- a record's pieces behind these lengths, over files of these sizes
pub record AreLegalPieces (version : Version) (sizes : FileId → ℕ) (lengths : List Length) (pieces : List Piece) : Type 0 where
  pub many : length pieces < 2 ^ 32
  pub each : All (IsLegalPiece version sizes (new_sizes lengths sizes)) pieces

-- lengths and pieces that make a record over files of these sizes
pub record IsLegalRecord (version : Version) (sizes : FileId → ℕ) (lengths : List Length) (pieces : List Piece) : Type 0 where
  pub lengths_are : AreLegalLengths version lengths
  pub pieces_are : AreLegalPieces version sizes lengths pieces
