-- Files that hold no base, and those of a base that was just made.
use Rattle.std.specs.Prelude.{◌≡◌, ◌≢◌, ℕ, ◌<◌, List, [], ◌∷◌, replicate}
use Rattle.jb_disk.specs.declared.version.Version.TheVariants.{Two}
use Rattle.jb_redo.specs.Changes.{Brings, record_size}
use Rattle.jb_disk.specs.RedoView.{RedoView}
use Rattle.jb_disk.specs.Files.{Files, file_number}
use Rattle.jb_disk.specs.declared.file.FileId.{FileId}
use Rattle.jb_disk.specs.declared.file.FileId.TheVariants.{Jhr, Jdt, Jdx, Jlr}
use Rattle.jb_disk.specs.declared.piece.Length.{Length}
use Rattle.jb_disk.specs.declared.piece.Piece.{Piece}
use Rattle.jb_disk.specs.declared.piece.Piece.TheVariants.{Bytes}
use Rattle.jb_image.specs.Stands.{Loads, fixed_of}
use Rattle.jb_state.specs.State.{AreaState, state_of}
use Rattle.jb_state.specs.declared.loaded.Loaded.{Loaded}
use Rattle.jb_record.specs.Fixed.{fixed_header_bytes}
use Rattle.jb_record.specs.declared.fixed.TheConstants.{FIXED_HEADER_BYTES, RESERVED_BYTES}
use Rattle.jb_redo.specs.Rules.{AreLegalLengths}
use Rattle.jb_change.specs.declared.base.TheConstants.{NO_PASSWORD}

-- the area of a base that is made at this moment, as it is loaded: base number 1, and no message yet (JAM, "Header file")
abbrev pub new_loaded : ℕ → Loaded
new_loaded moment = record {
  created = moment;
  counter = 0;
  active = 0;
  password = NO_PASSWORD;
  reserved = replicate RESERVED_BYTES 0;
  base = 1;
  slots = [];
  marks = [];
  headers_len = FIXED_HEADER_BYTES;
  texts_len = 0;
}

-- the state of that area
abbrev pub new_area : ℕ → AreaState
new_area moment = state_of [] (new_loaded moment)

-- the four files of a base are empty
abbrev pub AreEmpty : Files → Type 0
AreEmpty files = (file : FileId) → file_number file < 4 → files file ≡ []

-- the files of a base that was just made: its fixed header in .JHR, and nothing in the others; they hold its area
pub record AreNew (moment : ℕ) (files : Files) : Type 0 where
  pub headers : files Jhr ≡ fixed_header_bytes (fixed_of (new_loaded moment))
  pub others : (file : FileId) → file_number file < 4 → file ≢ Jhr → files file ≡ []
  pub loads : Loads (new_loaded moment) files

-- of empty files the change makes those of a base, and its record is legal and short
pub record MakesBase (moment : ℕ) (change : RedoView) : Type 0 where
  pub brings : Brings change AreEmpty (λ _. AreNew moment)
  pub lengths : AreLegalLengths Two change.lengths
  pub size : record_size change ≡ 1116

-- a length for each file of a new base, so that each is there then
abbrev pub base_lengths : List Length
base_lengths = record { file = Jhr; len = FIXED_HEADER_BYTES } ∷ record { file = Jdt; len = 0 } ∷ record { file = Jdx; len = 0 } ∷ record { file = Jlr; len = 0 } ∷ []

-- its fixed header at the beginning of .JHR
abbrev pub base_pieces : ℕ → List Piece
base_pieces moment = Bytes Jhr 0 (fixed_header_bytes (fixed_of (new_loaded moment))) ∷ []
