-- How a change stands over one buffer.
use Rattle.std.specs.Prelude.{◌≡◌, ℕ, ◌+◌, ◌-◌, ◌^◌, ◌<◌, ◌≤◌, min, List, length, false, All, map, vec_len, vec_capacity, slice_range, if◌then◌else◌, sum_by}
use Rattle.jb_disk.specs.declared.piece.Piece.{Piece}
use Rattle.jb_disk.specs.declared.piece.Piece.TheVariants.{Bytes, Copy}
use Rattle.jb_disk.specs.declared.redo.Kept.{Kept}
use Rattle.jb_disk.specs.declared.redo.Redo.TheInside.{Inside}
use Rattle.jb_disk.specs.RedoView.{RedoView, IsPlaced}

-- the piece that is kept so
abbrev pub piece_of : List ℕ → Kept → Piece
piece_of buffer kept =
    if kept.head.copy then Copy kept.head.from kept.head.from_at kept.head.to kept.head.to_at kept.head.len
    else Bytes kept.head.to kept.head.to_at (slice_range buffer kept.start (kept.start + kept.head.len))

-- the bytes that a piece keeps in the buffer
abbrev pub kept_size : Kept → ℕ
kept_size kept = if kept.head.copy then 0 else kept.head.len

-- its bytes stand within the buffer, its ends are low, and a piece that is no copy is copied from nowhere
pub record KeptFits (buffer : List ℕ) (kept : Kept) : Type 0 where
  pub within : kept.start + kept_size kept ≤ length buffer
  pub placed : IsPlaced kept.head
  pub plain : kept.head.copy ≡ false → (kept.head.from ≡ kept.head.to) × (kept.head.from_at ≡ 0)

-- the change that stands so
abbrev pub view_of_redo : Inside → RedoView
view_of_redo redo = record {
  lengths = redo.lengths.items;
  pieces = map (piece_of redo.buffer.items) redo.kept.items;
  spare_lengths = vec_capacity redo.lengths - vec_len redo.lengths;
  spare_pieces = min (vec_capacity redo.kept) (2 ^ 32 - 1) - vec_len redo.kept;
  spare_bytes = vec_capacity redo.buffer - vec_len redo.buffer;
}

-- each piece stands in the buffer, all of them fill it, and their number fits 32 bits
pub record IsFilled (redo : Inside) : Type 0 where
  pub fits : All (KeptFits redo.buffer.items) redo.kept.items
  pub total : sum_by kept_size redo.kept.items ≡ length redo.buffer.items
  pub few : length redo.kept.items < 2 ^ 32
