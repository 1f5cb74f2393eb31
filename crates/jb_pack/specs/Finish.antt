-- The change that packs an area out of the copies in .NDT.
use Rattle.std.specs.Prelude.{◌≡◌, ◌≢◌, ◌+◌, ◌*◌, ◌<◌, ◌≤◌, ◌^◌, List, ◌++◌, All, length}
use Rattle.jb_limits.specs.declared.limits.TheConstants.{SHADOW_CEILING}
use Rattle.jb_redo.specs.Changes.{Brings, record_size, IsWritable}
use Rattle.jb_disk.specs.RedoView.{RedoView, SameLists}
use Rattle.jb_disk.specs.Files.{Files}
use Rattle.jb_disk.specs.declared.file.FileId.TheVariants.{Jdt, Ndt}
use Rattle.jb_disk.specs.declared.piece.Piece.{Piece}
use Rattle.jb_disk.specs.declared.piece.Piece.TheVariants.{Bytes, Copy}
use Rattle.jb_image.specs.Stands.{Loads}
use Rattle.jb_state.specs.declared.loaded.Loaded.{Loaded}
use Rattle.jb_state.specs.declared.loaded.LoadedSlot.{LoadedSlot}
use Rattle.jb_state.specs.Packed.{live_slots, packed, packed_texts, texts_in, texts_size}
use Rattle.jb_pack.specs.Plan.{StandPacked}
use Rattle.jb_pack.specs.Runs.{IsRun, bytes_in, copies_of, runs_size}
use Rattle.jb_pack.specs.Shadow.{HasCopies, IsCopyIn, Shadow}
use Rattle.jb_pack.specs.declared.copied.CopiedText.{CopiedText}
use Rattle.jb_pack.specs.declared.packing.Packing.{Packing}
use Rattle.jb_pack.specs.declared.packing.Packing.TheVariants.{Fits, TextFull}
use Rattle.jb_pack.specs.declared.run.Run.{Run}

-- the parts lie within .NDT and are the texts of these slots, one behind another
pub record AreTextsIn (slots : List LoadedSlot) (runs : List Run) (files : Files) : Type 0 where
  pub bytes : bytes_in (files Ndt) runs ≡ texts_in (files Jdt) slots
  pub inside : All (IsRun (length (files Ndt))) runs

-- as many bytes more of .JDT as the texts of these slots have, as copies of parts of .NDT
pub record PutsCopies (copies : List CopiedText) (slots : List LoadedSlot) (old new : RedoView) : Type 0 where
  pub runs : List Run
  pub lengths : new.lengths ≡ old.lengths
  pub pieces : new.pieces ≡ old.pieces ++ copies_of 0 runs
  pub few : length runs ≤ live_slots slots + 1
  pub many : length new.pieces < 2 ^ 32
  pub size : runs_size runs ≡ texts_size slots
  pub below : All (IsRun SHADOW_CEILING) runs
  pub texts : (files : Files) → All (IsCopyIn (files Jdt) (files Ndt)) copies → AreTextsIn slots runs files

-- the files hold the area, and the copies stand in .NDT
pub record HoldsWithCopies (loaded : Loaded) (shadow : Shadow) (files : Files) : Type 0 where
  pub loads : Loads loaded files
  pub has : HasCopies shadow files

-- the piece brings no bytes for .JDT with it
abbrev pub BringsNoText : Piece → Type 0
BringsNoText (Bytes file at bytes) = file ≢ Jdt
BringsNoText (Copy from from_at to to_at len) = Unit {0}

-- the change packs the area with its texts as they are copied, and may be committed; however long they are, its record is
-- short beside the headers and the index that it makes
pub record IsPackOfCopies (loaded : Loaded) (shadow : Shadow) (change : RedoView) : Type 0 where
  pub brings : Brings change (HoldsWithCopies loaded shadow) (λ files. StandPacked loaded (packed_texts (files Jdt) loaded))
  pub no_text : All BringsNoText change.pieces
  pub short : 16 + record_size change ≤ 4096 + 3 * ((packed loaded).headers_len + 8 * length (packed loaded).slots)
  pub writable : IsWritable change

-- where it fits, the change packs the area; where it does not, nothing is put
abbrev pub FinishesPack : Shadow → Loaded → RedoView → RedoView → Packing → Type 0
FinishesPack shadow loaded old new (Fits base live dropped) = IsPackOfCopies loaded shadow new
FinishesPack shadow loaded old new (TextFull len) = SameLists old new
