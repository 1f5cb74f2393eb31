-- What is known of a record while it is walked through.
use Rattle.std.specs.Prelude.{◌≡◌, ◌⊎◌, ℕ, ◌+◌, ◌*◌, ◌<◌, ◌≤◌, List, ◌∷◌, ◌++◌, length, take, drop, slice_index, All}
use Rattle.jb_bytes.specs.Number.{number_bytes}
use Rattle.jb_disk.specs.declared.file.FileId.{FileId}
use Rattle.jb_disk.specs.declared.file.FileId.TheVariants.{Jdt, Jnl, Ndt}
use Rattle.jb_disk.specs.declared.piece.Length.{Length}
use Rattle.jb_disk.specs.declared.piece.Piece.{Piece}
use Rattle.jb_disk.specs.declared.version.Version.{Version}
use Rattle.jb_disk.specs.declared.version.Version.TheVariants.{One, Two}
use Rattle.jb_disk.specs.Files.{Files, file_number, ceiling_of}
use Rattle.jb_disk.specs.Gate.{version_of}
use Rattle.jb_redo.specs.declared.head.RecordHead.{RecordHead}
use Rattle.jb_redo.specs.declared.part.Front.{Front}
use Rattle.jb_redo.specs.declared.part.Front.TheVariants.{Bytes, Copy}
use Rattle.jb_redo.specs.declared.part.Part.{Part}
use Rattle.jb_redo.specs.declared.sizes.Sizes.{Sizes}
use Rattle.jb_redo.specs.Reading.{BeginsWith, Beginning, Lengths, Pieces, beginning_bytes, IsLegalBeginning, record_part}
use Rattle.jb_redo.specs.Rules.{sizes_of, new_sizes, bound_of, IsChangeNumber, IsLegalPiece}
use Rattle.jb_redo.specs.Record.{width_of, record_head, piece_bytes}
use Rattle.jb_redo.specs.Replay.{target_of, span_of}

-- the length that is kept of a file
abbrev pub size_in : Sizes → FileId → ℕ
size_in sizes file = slice_index sizes.by_file (file_number file)

-- these are the lengths of the files
abbrev pub AreSizes : Sizes → Files → Type 0
AreSizes sizes files = (file : FileId) → size_in sizes file ≡ length (files file)

-- the bytes of the journal from a place on
abbrev pub journal_from : Files → ℕ → List ℕ
journal_from files at = drop at (files Jnl)

-- how many bytes the head of a record has
abbrev pub head_size : Version → ℕ
head_size One = 4
head_size Two = 12

-- the journal has this version
abbrev pub HasVersion : Version → Files → Type 0
HasVersion version files = version ≡ version_of files

-- the journal has the version of this head, and behind its own head stands that of a record which says so
pub record HasHead (head : RecordHead) (files : Files) : Type 0 where
  pub version : HasVersion head.version files
  pub numbered : IsChangeNumber head.version head.change
  pub begins : BeginsWith (record_part files) (record_head head.version head.change)

-- the journal has this version and holds this beginning of a record, up to this place
pub record IsReadTo (files : Files) (version : Version) (beginning : Beginning) (at : ℕ) : Type 0 where
  pub version_is : HasVersion version files
  pub legal : IsLegalBeginning version (sizes_of files) beginning
  pub spelled : record_part files ≡ beginning_bytes version beginning ++ journal_from files at
  pub place : at ≡ 16 + length (beginning_bytes version beginning)

-- so many lengths are read, up to this place; files of later ones have at least this number; the files end there then
pub record HasLengthsTo (files : Files) (count read least at : ℕ) (ends : Sizes) : Type 0 where
  pub change : ℕ
  pub lengths : List Length
  pub size : length lengths ≡ read
  pub read_to : IsReadTo files ends.version (Lengths change count lengths) at
  pub below : All (λ entry. file_number entry.file < least) lengths
  pub no_less : (number : ℕ) → All (λ entry. file_number entry.file < number) lengths → least ≤ number
  pub ends_are : size_in ends ≡ new_sizes lengths (sizes_of files)

-- the record's lengths are read up to this place, and the files end there then
pub record HasLengths (files : Files) (at : ℕ) (ends : Sizes) : Type 0 where
  pub change : ℕ
  pub lengths : List Length
  pub read_to : IsReadTo files ends.version (Lengths change (length lengths) lengths) at
  pub ends_are : size_in ends ≡ new_sizes lengths (sizes_of files)

-- a length that was kept before, or one that a file may be given
abbrev pub AreWithin : Sizes → Sizes → Type 0
AreWithin sizes ends = (file : FileId)
    → (size_in ends file ≡ size_in sizes file) ⊎ (file_number file < 4) × (size_in ends file ≤ ceiling_of file)

-- the bytes before what a piece brings with it: kind, files, a zero byte, place and length
abbrev pub front_bytes : Version → Front → List ℕ
front_bytes version (Bytes to at len) =
    0 ∷ file_number to ∷ 0 ∷ 0 ∷ number_bytes (width_of version) at ++ number_bytes (width_of version) len
front_bytes version (Copy at len) =
    1 ∷ file_number Jdt ∷ file_number Ndt ∷ 0 ∷ number_bytes (width_of version) at ++ number_bytes (width_of version) len

-- how many there are
abbrev pub front_size : Version → ℕ
front_size version = 4 + 2 * width_of version

-- its numbers fit their bytes, and it goes into a file of the base
abbrev pub IsLegalFront : Version → Front → Type 0
IsLegalFront version (Bytes to at len) = (at < bound_of version) × (len < bound_of version) × (file_number to < 4)
IsLegalFront version (Copy at len) = (at < bound_of version) × (len < bound_of version)

-- a piece whose bytes stand at this place of the journal
abbrev pub given_part_of : ℕ → FileId → ℕ → ℕ → Part
given_part_of from_at to to_at len =
    record { from = Jnl; from_at = from_at; to = to; to_at = to_at; len = len; behind = from_at + len }

-- a copy that ends before this place of the journal
abbrev pub copied_part_of : ℕ → ℕ → ℕ → ℕ → Part
copied_part_of behind from_at to_at len =
    record { from = Ndt; from_at = from_at; to = Jdt; to_at = to_at; len = len; behind = behind }

-- the lengths that are kept of the files that no record changes
pub record AreFixedSizes (sizes : Sizes) (files : Files) : Type 0 where
  pub journal : size_in sizes Jnl ≡ length (files Jnl)
  pub shadow : size_in sizes Ndt ≡ length (files Ndt)

-- a legal piece stands at this place of the journal, and this part tells where its bytes are and where they go
pub record IsPartAt (files : Files) (ends : Sizes) (at : ℕ) (part : Part) : Type 0 where
  pub piece : Piece
  pub legal : IsLegalPiece ends.version (sizes_of files) (size_in ends) piece
  pub begins : BeginsWith (journal_from files at) (piece_bytes ends.version piece)
  pub behind : part.behind ≡ at + length (piece_bytes ends.version piece)
  pub target : part.to ≡ target_of piece
  pub span : span_of files piece ≡ record { at = part.to_at; bytes = take part.len (drop part.from_at (files part.from)) }
  pub inside : part.from_at + part.len ≤ length (files part.from)

-- no legal piece stands there
abbrev pub HasNoPieceAt : Files → Sizes → ℕ → Type 0
HasNoPieceAt files ends at = (piece : Piece) → IsLegalPiece ends.version (sizes_of files) (size_in ends) piece
    → BeginsWith (journal_from files at) (piece_bytes ends.version piece) → ⊥

-- some of so many pieces are read up to this place, behind lengths after which the files end there
pub record HasPiecesTo (files : Files) (count read at : ℕ) (ends : Sizes) : Type 0 where
  pub change : ℕ
  pub lengths : List Length
  pub pieces : List Piece
  pub size : length pieces ≡ read
  pub read_to : IsReadTo files ends.version (Pieces change lengths count pieces) at
  pub ends_are : size_in ends ≡ new_sizes lengths (sizes_of files)

-- all pieces are read up to this place
pub record HasPieces (files : Files) (at : ℕ) : Type 0 where
  pub count : ℕ
  pub ends : Sizes
  pub all : HasPiecesTo files count count at ends
