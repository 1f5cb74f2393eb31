-- A change of files, as callers see it: the lengths, the pieces, and the room that is spare.
use Rattle.std.specs.Prelude.{◌≡◌, ℕ, ◌+◌, ◌^◌, ◌<◌, ◌≤◌, List, [], length, true, false, sum_by}
use Rattle.jb_disk.specs.declared.piece.Length.{Length}
use Rattle.jb_disk.specs.declared.piece.Piece.{Piece}
use Rattle.jb_disk.specs.declared.piece.Piece.TheVariants.{Bytes, Copy}
use Rattle.jb_disk.specs.declared.piece.PieceHead.{PieceHead}

-- new lengths and pieces in order, and how many lengths, pieces and bytes of pieces there is room for
pub record RedoView : Type 0 where
  pub lengths : List Length
  pub pieces : List Piece
  pub spare_lengths : ℕ
  pub spare_pieces : ℕ
  pub spare_bytes : ℕ

-- a piece without its bytes
abbrev pub piece_head : Piece → PieceHead
piece_head (Bytes file at bytes) = record { copy = false; from = file; from_at = 0; to = file; to_at = at; len = length bytes }
piece_head (Copy from from_at to to_at len) = record { copy = true; from = from; from_at = from_at; to = to; to_at = to_at; len = len }

-- both ends of a piece, in the file it is copied from and in the file it goes into, are below this, so that no place wraps
pub record IsPlaced (head : PieceHead) : Type 0 where
  pub source : head.from_at + head.len < 2 ^ 63
  pub target : head.to_at + head.len < 2 ^ 63

-- the bytes that a piece brings with it
abbrev pub bytes_of : Piece → List ℕ
bytes_of (Bytes file at bytes) = bytes
bytes_of (Copy from from_at to to_at len) = []

-- how many bytes the pieces bring with them
abbrev pub held_by : List Piece → ℕ
held_by pieces = sum_by (λ piece. length (bytes_of piece)) pieces

-- there is room for so many more
pub record HasRoom (lengths pieces bytes : ℕ) (change : RedoView) : Type 0 where
  pub for_lengths : lengths ≤ change.spare_lengths
  pub for_pieces : pieces ≤ change.spare_pieces
  pub for_bytes : bytes ≤ change.spare_bytes

-- no more room is spent than this
pub record Spends (lengths pieces bytes : ℕ) (old new : RedoView) : Type 0 where
  pub of_lengths : old.spare_lengths ≤ new.spare_lengths + lengths
  pub of_pieces : old.spare_pieces ≤ new.spare_pieces + pieces
  pub of_bytes : old.spare_bytes ≤ new.spare_bytes + bytes

-- it holds what it held
pub record SameLists (old new : RedoView) : Type 0 where
  pub same_lengths : new.lengths ≡ old.lengths
  pub same_pieces : new.pieces ≡ old.pieces
