-- Files between those that a record is applied to and those that it makes.
use Rattle.std.specs.Prelude.{◌≡◌, ◌⊎◌, ℕ, ◌<◌, ◌≤◌, min, max, List, length, slice_index}
use Rattle.jb_disk.specs.declared.file.FileId.{FileId}
use Rattle.jb_disk.specs.declared.piece.Length.{Length}
use Rattle.jb_disk.specs.declared.piece.Piece.{Piece}
use Rattle.jb_disk.specs.Files.{Files}
use Rattle.jb_disk.specs.Steps.{Span, IsCovered}
use Rattle.jb_redo.specs.Replay.{spans_in}
use Rattle.jb_redo.specs.Rules.{sizes_of, new_sizes}

-- one file on the way: any length between the old and the new one, any bytes where pieces go and where it grew
pub record IsFileBetween (len : ℕ) (spans : List Span) (start now : List ℕ) : Type 0 where
  pub no_shorter : min (length start) len ≤ length now
  pub no_longer : length now ≤ max (length start) len
  pub same : (i : ℕ) → i < length start → i < len → IsCovered spans i ⊎ (slice_index now i ≡ slice_index start i)

-- each of the files is on its way; so the journal and the shadow of the texts are as they were
abbrev pub IsOnTheWay : List Length → List Piece → Files → Files → Type 0
IsOnTheWay lengths pieces start now = (file : FileId)
    → IsFileBetween (new_sizes lengths (sizes_of start) file) (spans_in start pieces file) (start file) (now file)
