-- What a record makes of files, and what files with a journal stand for.
use Rattle.std.specs.Prelude.{◌≡◌, ◌⊎◌, ℕ, ◌<◌, ◌≤◌, ◌==◌, Bool, List, length, take, drop, map, filter, Option, Some}
use Rattle.jb_disk.specs.declared.file.FileId.{FileId}
use Rattle.jb_disk.specs.declared.piece.Length.{Length}
use Rattle.jb_disk.specs.declared.piece.Piece.{Piece}
use Rattle.jb_disk.specs.declared.piece.Piece.TheVariants.{Bytes, Copy}
use Rattle.jb_disk.specs.Files.{Files, file_number}
use Rattle.jb_disk.specs.Memory.{of_length}
use Rattle.jb_disk.specs.Steps.{Span, IsCovered, patched}
use Rattle.jb_disk.specs.Gate.{IsGateOpen, with_gate_closed}
use Rattle.jb_redo.specs.Reading.{IsRecordOf}
use Rattle.jb_redo.specs.Rules.{sizes_of, new_sizes}

-- the file that a piece is written into
abbrev pub target_of : Piece → FileId
target_of (Bytes file at bytes) = file
target_of (Copy from from_at to to_at len) = to

-- what a piece writes and where; a copy takes it from the file that it names
abbrev pub span_of : Files → Piece → Span
span_of files (Bytes file at bytes) = record { at = at; bytes = bytes }
span_of files (Copy from from_at to to_at len) = record { at = to_at; bytes = take len (drop from_at (files from)) }

-- whether a piece is written into this file
abbrev pub writes : FileId → Piece → Bool
writes file piece = file_number (target_of piece) == file_number file

-- what the pieces write into one file, in order
abbrev pub spans_in : Files → List Piece → FileId → List Span
spans_in files pieces file = map (span_of files) (filter (writes file) pieces)

-- the files after a record: each of its new length, 0 where it grew, and then with its pieces written over it in order
abbrev pub applied : List Length → List Piece → Files → Files
applied lengths pieces files file =
    patched (spans_in files pieces file) (of_length (new_sizes lengths (sizes_of files) file) (files file))

-- each byte past an old end is written by some piece, so that no byte is left to what a growth brings
abbrev pub IsGrowthCovered : List Length → List Piece → Files → Type 0
IsGrowthCovered lengths pieces files = (file : FileId) (i : ℕ) → length (files file) ≤ i
    → i < new_sizes lengths (sizes_of files) file → IsCovered (spans_in files pieces file) i

-- these are now the files after the record that they held, where each byte past an old end is written by it
abbrev pub IsAppliedTo : Files → Option Files → Type 0
IsAppliedTo files contents = (lengths : List Length) (pieces : List Piece) → IsRecordOf files lengths pieces
    → IsGrowthCovered lengths pieces files → contents ≡ Some (applied lengths pieces files)

-- an open gate and a record: the files after it, and the gate closed
pub record IsRedone (files after : Files) : Type 0 where
  pub opened : IsGateOpen files
  pub lengths : List Length
  pub pieces : List Piece
  pub has : IsRecordOf files lengths pieces
  pub is : after ≡ with_gate_closed (applied lengths pieces files)

-- what the files stand for: themselves behind a closed gate, else what the record makes of them, if there is one
abbrev pub Replays : Files → Files → Type 0
Replays files after = ((IsGateOpen files → ⊥) × (after ≡ files)) ⊎ IsRedone files after
