-- A change that writes files anew: its pieces stand in each file one behind another, from the beginning on.
use Rattle.std.specs.Prelude.{◌≡◌, ◌≢◌, ℕ, ◌+◌, ◌*◌, ◌^◌, ◌<◌, ◌≤◌, List, ◌++◌, All, drop, filter, length}
use Rattle.std.specs.List.{flat_map}
use Rattle.jb_disk.specs.declared.version.Version.TheVariants.{Two}
use Rattle.jb_disk.specs.RedoView.{RedoView, bytes_of}
use Rattle.jb_disk.specs.Files.{Files}
use Rattle.jb_disk.specs.Steps.{IsCovered, patched}
use Rattle.jb_disk.specs.declared.file.FileId.{FileId}
use Rattle.jb_disk.specs.declared.piece.Piece.{Piece}
use Rattle.jb_disk.specs.declared.piece.Piece.TheVariants.{Bytes, Copy}
use Rattle.jb_redo.specs.Changes.{record_size}
use Rattle.jb_redo.specs.Replay.{spans_in, writes}
use Rattle.jb_redo.specs.Rules.{AreLegalBytes}

-- the pieces that are written into a file
abbrev pub pieces_into : List Piece → FileId → List Piece
pieces_into pieces file = filter (writes file) pieces

-- the bytes that they bring with them, one behind another
abbrev pub laid : List Piece → FileId → List ℕ
laid pieces file = flat_map bytes_of (pieces_into pieces file)

-- a piece with its bytes, which may stand in a record where the files have these lengths
abbrev pub IsLegalIn : (FileId → ℕ) → Piece → Type 0
IsLegalIn ends (Bytes file at bytes) = AreLegalBytes Two ends file at bytes
IsLegalIn ends (Copy from from_at to to_at len) = ⊥

-- whatever a file held that has no fewer bytes than the pieces, with them it begins with their bytes and goes on as it was
pub record IsLaidOut (pieces : List Piece) : Type 0 where
  pub fronts : (files : Files) (file : FileId) (old : List ℕ) → length (laid pieces file) ≤ length old
      → patched (spans_in files pieces file) old ≡ laid pieces file ++ drop (length (laid pieces file)) old
  pub covers : (files : Files) (file : FileId) (i : ℕ) → i < length (laid pieces file) → IsCovered (spans_in files pieces file) i
  pub each : All (IsLegalIn (λ file. length (laid pieces file))) pieces
  pub few : length pieces < 2 ^ 32

-- so many pieces more, with these bytes together behind those of one file
pub record Lays (file : FileId) (count : ℕ) (bytes : List ℕ) (old new : RedoView) : Type 0 where
  pub lengths : new.lengths ≡ old.lengths
  pub here : laid new.pieces file ≡ laid old.pieces file ++ bytes
  pub others : (other : FileId) → other ≢ file → pieces_into new.pieces other ≡ pieces_into old.pieces other
  pub kept : IsLaidOut old.pieces → IsLaidOut new.pieces
  pub size : record_size new ≤ record_size old + 20 * count + length bytes
