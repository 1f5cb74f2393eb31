-- A mark behind the others of an area, as a change of its files.
use Rattle.std.specs.Prelude.{◌≡◌, ℕ, ◌+◌, ◌*◌, List, [], ◌∷◌, ◌++◌, length}
use Rattle.jb_change.specs.Makes.{Makes}
use Rattle.jb_disk.specs.RedoView.{RedoView}
use Rattle.jb_disk.specs.declared.file.FileId.TheVariants.{Jlr}
use Rattle.jb_disk.specs.declared.piece.Length.{Length}
use Rattle.jb_disk.specs.declared.piece.Piece.{Piece}
use Rattle.jb_disk.specs.declared.piece.Piece.TheVariants.{Bytes}
use Rattle.jb_image.specs.Stands.{mark_record}
use Rattle.jb_state.specs.Loaded.{with_marks}
use Rattle.jb_state.specs.declared.loaded.Loaded.{Loaded}
use Rattle.jb_state.specs.declared.mark.Mark.{Mark}
use Rattle.jb_record.specs.Lastread.{lastread_record_bytes}

-- of each area with so many marks the change makes the area with this mark behind them
abbrev pub MakesMark : RedoView → ℕ → Mark → Type 0
MakesMark change count mark = (loaded : Loaded) → length loaded.marks ≡ count
    → Makes change loaded (with_marks (loaded.marks ++ mark ∷ []) loaded) []

-- the length of .JLR with one mark more
abbrev pub mark_lengths : ℕ → List Length
mark_lengths count = record { file = Jlr; len = 16 * count + 16 } ∷ []

-- the record of the mark at the end of .JLR
abbrev pub mark_pieces : ℕ → Mark → List Piece
mark_pieces count mark = Bytes Jlr (16 * count) (lastread_record_bytes (mark_record mark)) ∷ []
