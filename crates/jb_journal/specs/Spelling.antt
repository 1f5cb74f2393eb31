-- The bytes of a record of the second version, part by part.
use Rattle.std.specs.Prelude.{ℕ, ◌+◌, List, [], ◌∷◌, ◌++◌, if◌then◌else◌, get_or, length}
use Rattle.std.specs.List.{flat_map}
use Rattle.jb_bytes.specs.Number.{number_bytes}
use Rattle.jb_disk.specs.declared.file.FileId.TheVariants.{Jhr}
use Rattle.jb_disk.specs.declared.piece.Length.{Length}
use Rattle.jb_disk.specs.declared.piece.Piece.{Piece}
use Rattle.jb_disk.specs.declared.piece.Piece.TheVariants.{Bytes, Copy}
use Rattle.jb_disk.specs.declared.piece.PieceHead.{PieceHead}
use Rattle.jb_disk.specs.declared.version.Version.TheVariants.{Two}
use Rattle.jb_disk.specs.Files.{file_number}
use Rattle.jb_redo.specs.Record.{record_head, record_end, length_bytes, piece_bytes}

-- a piece by its number from 0
abbrev pub nth_piece : List Piece → ℕ → Piece
nth_piece pieces k = get_or pieces k (Bytes Jhr 0 [])

-- the twenty bytes with which a piece begins
abbrev pub head_bytes : PieceHead → List ℕ
head_bytes head = (if head.copy then 1 else 0) ∷ file_number head.to ∷ (if head.copy then file_number head.from else 0) ∷ 0 ∷ number_bytes 8 head.to_at ++ number_bytes 8 head.len

-- what stands behind them: its bytes, or the place from which it is copied
abbrev pub tail_bytes : Piece → List ℕ
tail_bytes (Bytes file at bytes) = bytes
tail_bytes (Copy from from_at to to_at len) = number_bytes 8 from_at

-- how many bytes a piece takes
abbrev pub spelled_size : PieceHead → ℕ
spelled_size head = 20 + (if head.copy then 8 else head.len)

-- a record up to its first piece
abbrev pub record_front : ℕ → List Length → ℕ → List ℕ
record_front number lengths pieces = record_head Two number ++ number_bytes 4 (length lengths) ++ flat_map (length_bytes Two) lengths ++ number_bytes 4 pieces

-- a record from its first piece on
abbrev pub back_bytes : List Piece → List ℕ
back_bytes pieces = flat_map (piece_bytes Two) pieces ++ record_end Two
