-- What the calls of the third stage make of the files.
use Rattle.std.specs.Prelude.{◌≡◌, ◌≢◌, ℕ, ◌+◌, ◌<◌, ◌≤◌, List, [], ◌∷◌, All}
use Rattle.jb_disk.specs.declared.file.FileId.{FileId}
use Rattle.jb_disk.specs.declared.piece.Length.{Length}
use Rattle.jb_disk.specs.declared.piece.Piece.{Piece}
use Rattle.jb_disk.specs.declared.version.Version.TheVariants.{Two}
use Rattle.jb_disk.specs.Files.{Files, file_number, written, IsResized}
use Rattle.jb_disk.specs.Steps.{IsCovered}
use Rattle.jb_redo.specs.Replay.{target_of, span_of, spans_in}
use Rattle.jb_redo.specs.Rules.{sizes_of, new_sizes, IsLegalPiece}

-- each file has its new length, and where it kept a byte, the same one
abbrev pub HaveNewLengths : List Length → Files → Files → Type 0
HaveNewLengths lengths before after = (file : FileId) → IsResized (new_sizes lengths (sizes_of before) file) (before file) (after file)

-- one piece written
abbrev pub with_piece : Piece → Files → Files
with_piece piece files = written (target_of piece) (span_of files piece).at (span_of files piece).bytes files

-- the pieces written in order
abbrev pub with_pieces : List Piece → Files → Files
with_pieces [] files = files
with_pieces (piece ∷ pieces) files = with_pieces pieces (with_piece piece files)

-- the piece has room in the files as they are
abbrev pub HasPlace : Files → Piece → Type 0
HasPlace files piece = IsLegalPiece Two (sizes_of files) (sizes_of files) piece

-- the change does not speak of this file
pub record IsUnmentioned (lengths : List Length) (pieces : List Piece) (file : FileId) : Type 0 where
  pub none_set : All (λ entry. file_number (entry.file) ≢ file_number file) lengths
  pub none_written : All (λ piece. file_number (target_of piece) ≢ file_number file) pieces

-- this range of the file is written by some of the pieces
abbrev pub IsWrittenBy : Files → List Piece → FileId → ℕ → ℕ → Type 0
IsWrittenBy start pieces file at len = (i : ℕ) → at ≤ i → i < at + len → IsCovered (spans_in start pieces file) i

-- the files whose numbers are below this are the same
abbrev pub AgreeBelow : ℕ → Files → Files → Type 0
AgreeBelow count base files = (file : FileId) → file_number file < count → files file ≡ base file
