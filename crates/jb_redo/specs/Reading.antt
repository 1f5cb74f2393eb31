-- The record that the journal holds, and the place where it holds none.
use Rattle.std.specs.Prelude.{◌≡◌, ◌⊎◌, ℕ, ◌+◌, ◌^◌, ◌<◌, ◌≤◌, List, [], ◌++◌, length, drop, All}
use Rattle.std.specs.List.{flat_map}
use Rattle.jb_bytes.specs.Number.{number_bytes}
use Rattle.jb_disk.specs.declared.file.FileId.{FileId}
use Rattle.jb_disk.specs.declared.file.FileId.TheVariants.{Jnl}
use Rattle.jb_disk.specs.declared.piece.Length.{Length}
use Rattle.jb_disk.specs.declared.piece.Piece.{Piece}
use Rattle.jb_disk.specs.declared.version.Version.{Version}
use Rattle.jb_disk.specs.declared.version.Version.TheVariants.{Two}
use Rattle.jb_disk.specs.Files.{Files}
use Rattle.jb_disk.specs.Gate.{version_of}
use Rattle.jb_redo.specs.declared.head.RecordHead.{RecordHead}
use Rattle.jb_redo.specs.Record.{record_mark, record_head, record_end, length_bytes, piece_bytes, record_bytes}
use Rattle.jb_redo.specs.Rules.{sizes_of, new_sizes, IsChangeNumber, IsLegalLength, IsBefore, IsLegalPiece, AreLegalLengths, IsLegalRecord}

-- the bytes of the journal behind its sixteen bytes of head
abbrev pub record_part : Files → List ℕ
record_part files = drop 16 (files Jnl)

-- the bytes begin with these; what stands behind them is not looked at
pub record BeginsWith (bytes first : List ℕ) : Type 0 where
  pub behind : List ℕ
  pub is : bytes ≡ first ++ behind

-- the journal holds the record, in its version, of these lengths and pieces
pub record IsRecordOf (files : Files) (lengths : List Length) (pieces : List Piece) : Type 0 where
  pub change : ℕ
  pub numbered : IsChangeNumber (version_of files) change
  pub legal : IsLegalRecord (version_of files) (sizes_of files) lengths pieces
  pub begins : BeginsWith (record_part files) (record_bytes (version_of files) change lengths pieces)

-- the journal holds a record
pub record HasRecord (files : Files) : Type 0 where
  pub lengths : List Length
  pub pieces : List Piece
  pub is : IsRecordOf files lengths pieces

-- the journal holds a record with this head
pub record HasRecordOf (head : RecordHead) (files : Files) : Type 0 where
  pub version : head.version ≡ version_of files
  pub has : HasRecord files
  pub change : has.is.change ≡ head.change

-- the beginning of a record: how many of its fields there are, a count by the number that it says
pub data Beginning : Type 0 where
  Nothing : Beginning
  MarkAlone : Beginning
  HeadAlone : (change : ℕ) → Beginning
  Lengths : (change count : ℕ) (lengths : List Length) → Beginning
  Pieces : (change : ℕ) (lengths : List Length) (count : ℕ) (pieces : List Piece) → Beginning

-- its bytes
abbrev pub beginning_bytes : Version → Beginning → List ℕ
beginning_bytes version Nothing = []
beginning_bytes version MarkAlone = record_mark version
beginning_bytes version (HeadAlone change) = record_head version change
beginning_bytes version (Lengths change count lengths) =
    record_head version change ++ number_bytes 4 count ++ flat_map (length_bytes version) lengths
beginning_bytes version (Pieces change lengths count pieces) =
    record_head version change ++ number_bytes 4 (length lengths) ++ flat_map (length_bytes version) lengths
    ++ number_bytes 4 count ++ flat_map (piece_bytes version) pieces

-- lengths of a record that is to have so many
pub record AreLengthsSoFar (version : Version) (change count : ℕ) (lengths : List Length) : Type 0 where
  pub numbered : IsChangeNumber version change
  pub few : count ≤ 4
  pub so_far : length lengths ≤ count
  pub legal : AreLegalLengths version lengths

-- pieces of a record that is to have so many, behind these lengths and over files of these sizes
pub record ArePiecesSoFar (version : Version) (sizes : FileId → ℕ) (change : ℕ) (lengths : List Length) (count : ℕ) (pieces : List Piece) : Type 0 where
  pub numbered : IsChangeNumber version change
  pub lengths_are : AreLegalLengths version lengths
  pub many : count < 2 ^ 32
  pub so_far : length pieces ≤ count
  pub each : All (IsLegalPiece version sizes (new_sizes lengths sizes)) pieces

-- each field that is there keeps the rules; the mark is a field of its own where the number of the change follows it
abbrev pub IsLegalBeginning : Version → (FileId → ℕ) → Beginning → Type 0
IsLegalBeginning version sizes Nothing = Unit {0}
IsLegalBeginning version sizes MarkAlone = version ≡ Two
IsLegalBeginning version sizes (HeadAlone change) = IsChangeNumber version change
IsLegalBeginning version sizes (Lengths change count lengths) = AreLengthsSoFar version change count lengths
IsLegalBeginning version sizes (Pieces change lengths count pieces) = ArePiecesSoFar version sizes change lengths count pieces

-- the number of the change
pub record IsNumberField (field : List ℕ) : Type 0 where
  pub change : ℕ
  pub low : change < 2 ^ 64
  pub is : field ≡ number_bytes 8 change

-- the count of lengths
pub record IsLengthCount (field : List ℕ) : Type 0 where
  pub count : ℕ
  pub few : count ≤ 4
  pub is : field ≡ number_bytes 4 count

-- a length behind these, where there are to be more
pub record IsNextLength (version : Version) (count : ℕ) (lengths : List Length) (field : List ℕ) : Type 0 where
  pub more : length lengths < count
  pub entry : Length
  pub legal : IsLegalLength version entry
  pub later : All (λ other. IsBefore other entry) lengths
  pub is : field ≡ length_bytes version entry

-- the count of pieces, where the lengths are there
pub record IsPieceCount (count : ℕ) (lengths : List Length) (field : List ℕ) : Type 0 where
  pub all : length lengths ≡ count
  pub pieces : ℕ
  pub many : pieces < 2 ^ 32
  pub is : field ≡ number_bytes 4 pieces

-- a piece, where there are to be more
pub record IsNextPiece (version : Version) (sizes : FileId → ℕ) (lengths : List Length) (count : ℕ) (pieces : List Piece) (field : List ℕ) : Type 0 where
  pub more : length pieces < count
  pub piece : Piece
  pub legal : IsLegalPiece version sizes (new_sizes lengths sizes) piece
  pub is : field ≡ piece_bytes version piece

-- the end, where the pieces are there
pub record IsEnd (version : Version) (count : ℕ) (pieces : List Piece) (field : List ℕ) : Type 0 where
  pub all : length pieces ≡ count
  pub is : field ≡ record_end version

-- these bytes are a field that may stand next, as whole as it is and by every rule
abbrev pub IsNextField : Version → (FileId → ℕ) → Beginning → List ℕ → Type 0
IsNextField version sizes Nothing field = field ≡ record_mark version
IsNextField version sizes MarkAlone field = IsNumberField field
IsNextField version sizes (HeadAlone change) field = IsLengthCount field
IsNextField version sizes (Lengths change count lengths) field =
    IsNextLength version count lengths field ⊎ IsPieceCount count lengths field
IsNextField version sizes (Pieces change lengths count pieces) field =
    IsNextPiece version sizes lengths count pieces field ⊎ IsEnd version count pieces field

-- the bytes begin as a record does, and at this place no field follows that is whole and keeps the rules
pub record IsStoppedAt (version : Version) (sizes : FileId → ℕ) (bytes : List ℕ) (at : ℕ) : Type 0 where
  pub beginning : Beginning
  pub legal : IsLegalBeginning version sizes beginning
  pub rest : List ℕ
  pub begins : bytes ≡ beginning_bytes version beginning ++ rest
  pub place : at ≡ length (beginning_bytes version beginning)
  pub stops : (field : List ℕ) → IsNextField version sizes beginning field → BeginsWith rest field → ⊥

-- the journal holds no record: this is the place in it of the first field that is cut off or breaks a rule
pub record IsBadAt (files : Files) (at : ℕ) : Type 0 where
  pub within : ℕ
  pub place : at ≡ 16 + within
  pub stopped : IsStoppedAt (version_of files) (sizes_of files) (record_part files) within
