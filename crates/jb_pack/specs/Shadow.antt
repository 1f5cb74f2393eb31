-- What a packer has copied of the texts into .NDT, and which bytes are left.
use Rattle.std.specs.Prelude.{◌≡◌, ℕ, ◌+◌, ◌≤◌, ◌==◌, ◌&&◌, List, [], ◌∷◌, All, length, sum, take, if◌then◌else◌}
use Rattle.jb_limits.specs.declared.limits.TheConstants.{SHADOW_CEILING}
use Rattle.jb_disk.specs.Files.{Files}
use Rattle.jb_disk.specs.declared.file.FileId.TheVariants.{Jdt, Ndt}
use Rattle.jb_image.specs.Places.{bytes_at}
use Rattle.jb_state.specs.declared.loaded.LoadedSlot.{LoadedSlot}
use Rattle.jb_state.specs.declared.loaded.LoadedSlot.TheVariants.{Empty, Killed, Live}
use Rattle.jb_state.specs.Packed.{slot_text_size}
use Rattle.jb_pack.specs.declared.copied.CopiedText.{CopiedText}

-- for the slots in order the copies of their texts, and how many bytes .NDT has
pub record Shadow : Type 0 where
  pub texts : List CopiedText
  pub len : ℕ

-- no copy: one of no bytes
abbrev pub not_copied : CopiedText
not_copied = record { from = 0; len = 0; at = 0 }

-- the copy ends below the ceiling of .NDT
abbrev pub IsBelowCeiling : CopiedText → Type 0
IsBelowCeiling copied = copied.at + copied.len ≤ SHADOW_CEILING

-- .NDT is empty
abbrev pub nothing_copied : Shadow
nothing_copied = record { texts = []; len = 0 }

-- how many bytes of the slot's live text are left to copy: all, unless this is a copy of them from where they stand now
abbrev pub left_of : CopiedText → LoadedSlot → ℕ
left_of copied Empty = 0
left_of copied (Killed header_at) = 0
left_of copied (Live message) = if (copied.from == message.text_at) && (copied.len == message.text_len) then 0 else message.text_len

-- so it is slot by slot; where there is no copy all bytes are left
abbrev pub lefts : List CopiedText → List LoadedSlot → List ℕ
lefts copies [] = []
lefts [] (slot ∷ slots) = slot_text_size slot ∷ lefts [] slots
lefts (copied ∷ copies) (slot ∷ slots) = left_of copied slot ∷ lefts copies slots

-- how many bytes are left of the texts of the first so many slots
abbrev pub left_first : ℕ → Shadow → List LoadedSlot → ℕ
left_first count shadow slots = sum (take count (lefts shadow.texts slots))

-- how many are left of all
abbrev pub left : Shadow → List LoadedSlot → ℕ
left shadow slots = sum (lefts shadow.texts slots)

-- these bytes of .NDT are those at the place of .JDT from which they were copied
pub record IsCopyIn (texts shadow : List ℕ) (copied : CopiedText) : Type 0 where
  pub inside : copied.from + copied.len ≤ length texts
  pub there : copied.at + copied.len ≤ length shadow
  pub same : bytes_at copied.at copied.len shadow ≡ bytes_at copied.from copied.len texts

-- .NDT has its bytes, and each copy is one
pub record HasCopies (shadow : Shadow) (files : Files) : Type 0 where
  pub size : length (files Ndt) ≡ shadow.len
  pub each : All (IsCopyIn (files Jdt) (files Ndt)) shadow.texts
