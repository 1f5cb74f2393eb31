-- The change that packs an area, and what is answered with it.
use Rattle.std.specs.Prelude.{◌≡◌, ◌≢◌, ℕ, ◌+◌, ◌*◌, ◌<◌, ◌≤◌, List, [], ◌∷◌, length, Option}
use Rattle.std.specs.Option.{ForSome}
use Rattle.jb_limits.specs.declared.limits.TheConstants.{TEXTS_CEILING}
use Rattle.jb_redo.specs.Changes.{Brings, record_size}
use Rattle.jb_redo.specs.Rules.{AreLegalLengths}
use Rattle.jb_disk.specs.RedoView.{RedoView, SameLists}
use Rattle.jb_disk.specs.Files.{Files}
use Rattle.jb_disk.specs.declared.file.FileId.{FileId}
use Rattle.jb_disk.specs.declared.file.FileId.TheVariants.{Jhr, Jdt, Jdx}
use Rattle.jb_disk.specs.declared.piece.Length.{Length}
use Rattle.jb_disk.specs.declared.version.Version.TheVariants.{Two}
use Rattle.jb_image.specs.Stands.{Loads}
use Rattle.jb_state.specs.Live.{killed_count, live_count}
use Rattle.jb_state.specs.PackedState.{packed_base}
use Rattle.jb_state.specs.State.{AreaState}
use Rattle.jb_state.specs.Tight.{texts_together}
use Rattle.jb_state.specs.declared.loaded.Loaded.{Loaded}
use Rattle.jb_state.specs.declared.loaded.LoadedSlot.{LoadedSlot}
use Rattle.jb_pack.specs.Bytes.{IsReadAgain, headers_file, index_file}
use Rattle.jb_pack.specs.Laid.{IsLaidOut, laid, pieces_into}
use Rattle.jb_state.specs.Packed.{headers_size, kept_slots, killed_slots, live_slots, new_base, packed, packed_texts, texts_size}
use Rattle.jb_pack.specs.Standing.{StandTogether}
use Rattle.jb_pack.specs.declared.packing.Packing.{Packing}
use Rattle.jb_pack.specs.declared.packing.Packing.TheVariants.{Fits, TextFull}
use Rattle.jb_pack.specs.declared.sizes.Sizes.{Sizes}

-- the lengths of .JHR, .JDT and .JDX with so many bytes of messages' headers and of texts, and so many slots
abbrev pub lengths_with : ℕ → ℕ → ℕ → List Length
lengths_with headers texts slots =
    record { file = Jhr; len = 1024 + headers } ∷ record { file = Jdt; len = texts } ∷ record { file = Jdx; len = 8 * slots } ∷ []

-- all of .JHR and .JDX after a pack is put, and nothing else
pub record PutsArea (loaded : Loaded) (old new : RedoView) : Type 0 where
  pub lengths : new.lengths ≡ old.lengths
  pub headers : laid new.pieces Jhr ≡ headers_file (packed loaded)
  pub index : laid new.pieces Jdx ≡ index_file (packed loaded)
  pub others : (other : FileId) → other ≢ Jhr → other ≢ Jdx → pieces_into new.pieces other ≡ pieces_into old.pieces other
  pub kept : IsLaidOut old.pieces → IsLaidOut new.pieces
  pub size : record_size new ≤ record_size old + 20 * (live_slots (kept_slots loaded) + 2) + length (headers_file (packed loaded)) + length (index_file (packed loaded))
  pub long : length (headers_file (packed loaded)) ≡ (packed loaded).headers_len
  pub back : IsReadAgain (packed loaded)

-- the slots have so many live and killed messages, and the live ones so many bytes of headers and of texts
pub record AreSizesOf (slots : List LoadedSlot) (sizes : Sizes) : Type 0 where
  pub live : sizes.live ≡ live_slots slots
  pub killed : sizes.killed ≡ killed_slots slots
  pub headers : sizes.headers ≡ headers_size slots
  pub texts : sizes.texts ≡ texts_size slots

-- the new lengths are put, and all of .JHR and .JDX after a pack, and nothing else
pub record PutsBase (loaded : Loaded) (new : RedoView) : Type 0 where
  pub lengths : new.lengths ≡ lengths_with (headers_size (kept_slots loaded)) (texts_size (kept_slots loaded)) (length (kept_slots loaded))
  pub headers : laid new.pieces Jhr ≡ headers_file (packed loaded)
  pub index : laid new.pieces Jdx ≡ index_file (packed loaded)
  pub others : (other : FileId) → other ≢ Jhr → other ≢ Jdx → pieces_into new.pieces other ≡ []
  pub laid_out : IsLaidOut new.pieces
  pub size : record_size new ≤ 60 + 20 * (live_slots (kept_slots loaded) + 2) + length (headers_file (packed loaded)) + length (index_file (packed loaded))
  pub long : length (headers_file (packed loaded)) ≡ (packed loaded).headers_len
  pub back : IsReadAgain (packed loaded)

-- the files hold the area after a pack, with these texts, headers and index records in the order of the numbers without a
-- gap, and in each live message's header its number
pub record StandPacked (loaded : Loaded) (texts : List ℕ) (files : Files) : Type 0 where
  pub loads : Loads (packed loaded) files
  pub headers : files Jhr ≡ headers_file (packed loaded)
  pub index : files Jdx ≡ index_file (packed loaded)
  pub texts_are : files Jdt ≡ texts
  pub together : StandTogether files (packed loaded).base 1024 0 (packed loaded).slots

-- the change packs the area; its record is short beside the files that it makes, with lengths as a record may have them; its texts are
-- the packed ones, where the disk tells which there were
pub record IsPackOf (contents : Option Files) (loaded : Loaded) (change : RedoView) : Type 0 where
  pub texts : List ℕ
  pub brings : Brings change (Loads loaded) (λ _. StandPacked loaded texts)
  pub short : 16 + record_size change
      ≤ 4096 + 3 * ((packed loaded).headers_len + 8 * length (packed loaded).slots) + (packed loaded).texts_len
  pub lengths : AreLegalLengths Two change.lengths
  pub told : ForSome contents (λ files. texts ≡ packed_texts (files Jdt) loaded)

-- the live texts fit, and a pack gives this base, with so many messages live and so many dropped
pub record FitsWith (state : AreaState) (first kept gone : ℕ) : Type 0 where
  pub fits : texts_together state.slots ≤ TEXTS_CEILING
  pub base : first ≡ packed_base state
  pub live : kept ≡ live_count state.slots
  pub dropped : gone ≡ killed_count state.slots

-- what a pack of this state comes to: it fits, or its texts are too long together
abbrev pub AnswersPack : AreaState → Packing → Type 0
AnswersPack state (Fits base live dropped) = FitsWith state base live dropped
AnswersPack state (TextFull len) = (TEXTS_CEILING < texts_together state.slots) × (len ≡ texts_together state.slots)

-- where it fits, the base is that after a pack
abbrev pub IsPackingOf : Loaded → Packing → Type 0
IsPackingOf loaded (Fits base live dropped) = (base ≡ new_base loaded) × (texts_size loaded.slots ≤ TEXTS_CEILING)
IsPackingOf loaded (TextFull len) = Unit {0}

-- where it fits, the change packs the area; where it does not, nothing is put
abbrev pub PlansPack : Option Files → Loaded → RedoView → RedoView → Packing → Type 0
PlansPack contents loaded old new (Fits base live dropped) = IsPackOf contents loaded new
PlansPack contents loaded old new (TextFull len) = SameLists old new
