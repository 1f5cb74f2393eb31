-- What the applying of a record does to the files, part by part.
use Rattle.std.specs.Prelude.{◌≡◌, ℕ, ◌+◌, ◌^◌, ◌<◌, ◌≤◌, List, length, take, drop, Some}
use Rattle.jb_disk.specs.declared.file.FileId.{FileId}
use Rattle.jb_disk.specs.declared.piece.Piece.{Piece}
use Rattle.jb_disk.specs.Device.{Device}
use Rattle.jb_disk.specs.Files.{Files, file_number, written, IsResized}
use Rattle.jb_disk.specs.Runs.{Keeps}
use Rattle.jb_disk.specs.Steps.{patched, IsCovered}
use Rattle.jb_disk.specs.declared.piece.Length.{Length}
use Rattle.jb_redo.specs.declared.error.RecordError.{RecordError}
use Rattle.jb_redo.specs.declared.error.RecordError.TheVariants.{Bad, StoreFault}
use Rattle.jb_redo.specs.declared.part.Part.{Part}
use Rattle.jb_redo.specs.declared.sizes.Sizes.{Sizes}
use Rattle.jb_redo.specs.OnTheWay.{IsOnTheWay}
use Rattle.jb_redo.specs.Reading.{IsRecordOf}
use Rattle.jb_redo.specs.Replay.{spans_in}
use Rattle.jb_redo.specs.Walk.{size_in, HasPiecesTo}

-- bytes go into a file of the base, from one that is none, and both places fit 64 bits
pub record IsSoundPart (part : Part) : Type 0 where
  pub source : 4 ≤ file_number part.from
  pub target : file_number part.to < 4
  pub from_end : part.from_at + part.len < 2 ^ 64
  pub to_end : part.to_at + part.len < 2 ^ 64

-- the bytes of a part lie within the one file and go within the other
pub record LiesWithin (part : Part) (files : Files) : Type 0 where
  pub inside : part.from_at + part.len ≤ length (files part.from)
  pub within : part.to_at + part.len ≤ length (files part.to)

-- the files once so many bytes of a part are copied
abbrev pub copied : Part → ℕ → Files → Files
copied part count files = written part.to part.to_at (take count (drop part.from_at (files part.from))) files

-- and once a chunk is copied behind so many bytes
abbrev pub copied_chunk : Part → ℕ → ℕ → Files → Files
copied_chunk part done count files =
    written part.to (part.to_at + done) (take count (drop (part.from_at + done) (files part.from))) files

-- each file has its new length, and what both hold is the same
abbrev pub AreResized : Sizes → Files → Files → Type 0
AreResized ends old new = (file : FileId) → IsResized (size_in ends file) (old file) (new file)

-- each file with these pieces written over it
abbrev pub pieced : List Piece → Files → Files
pieced pieces files file = patched (spans_in files pieces file) (files file)

-- some of the pieces are read up to this place, and the files are now these with them written over
pub record HasAppliedTo (start : Files) (count read at : ℕ) (ends : Sizes) (now : Files) : Type 0 where
  pub has : HasPiecesTo start count read at ends
  pub is : now ≡ pieced has.pieces start

-- all of them are
pub record HasPieced (start : Files) (at : ℕ) (ends : Sizes) (now : Files) : Type 0 where
  pub count : ℕ
  pub all : HasAppliedTo start count count at ends now

-- the files are now these with the pieces of their record written over
abbrev pub ArePieced : Files → Files → Type 0
ArePieced files now =
    (lengths : List Length) (pieces : List Piece) → IsRecordOf files lengths pieces → now ≡ pieced pieces files

-- what lies on its way to what a record makes stays on it, where pieces of the record go into this range
abbrev pub KeepsInRange : FileId → ℕ → ℕ → Device → Device → Type 0
KeepsInRange file at len old new = (lengths : List Length) (pieces : List Piece) (start : Files)
    → ((i : ℕ) → at ≤ i → i < at + len → IsCovered (spans_in start pieces file) i)
    → Keeps (IsOnTheWay lengths pieces start) old new

-- where it lies on its way to what the record makes that is read, it stays on it
abbrev pub KeepsWay : Device → Device → Type 0
KeepsWay old new = (lengths : List Length) (pieces : List Piece) (start files : Files) → old.contents ≡ Some files
    → IsRecordOf start lengths pieces → IsOnTheWay lengths pieces start files
    → Keeps (IsOnTheWay lengths pieces start) old new

-- the device failed
abbrev pub IsFault : RecordError → Type 0
IsFault (Bad at) = ⊥
IsFault StoreFault = Unit {0}
