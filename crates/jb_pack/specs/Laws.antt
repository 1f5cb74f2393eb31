-- What the area after a pack stands for, and what its files hold.
use Rattle.std.specs.Prelude.{◌≡◌, ℕ, ◌≤◌, List, length, take}
use Rattle.jb_limits.specs.declared.limits.TheConstants.{TEXTS_CEILING}
use Rattle.jb_disk.specs.Files.{Files}
use Rattle.jb_disk.specs.declared.file.FileId.TheVariants.{Jhr, Jdt, Jdx, Jlr, Ndt}
use Rattle.jb_image.specs.Stands.{Loads}
use Rattle.jb_state.specs.PackedState.{packed_state}
use Rattle.jb_state.specs.Sound.{IsSound}
use Rattle.jb_state.specs.State.{state_of}
use Rattle.jb_state.specs.declared.loaded.Loaded.{Loaded}
use Rattle.jb_pack.specs.Bytes.{IsReadAgain, headers_file, index_file}
use Rattle.jb_state.specs.Packed.{packed, packed_texts}
use Rattle.jb_pack.specs.Shadow.{HasCopies, Shadow}

-- with the texts put together, the loaded area after a pack stands for the packed state
abbrev pub PacksAsDefined : Type 0
PacksAsDefined = (limit : ℕ) (texts : List ℕ) (loaded : Loaded) → IsSound limit loaded → length texts ≡ loaded.texts_len
    → state_of (packed_texts texts loaded) (packed loaded) ≡ packed_state (state_of texts loaded)

-- the files have the bytes of the area after a pack, and the marks that these others have
pub record ArePacked (loaded : Loaded) (before after : Files) : Type 0 where
  pub headers : after Jhr ≡ headers_file (packed loaded)
  pub texts : length (after Jdt) ≡ (packed loaded).texts_len
  pub index : after Jdx ≡ index_file (packed loaded)
  pub lastread : after Jlr ≡ before Jlr

-- of files that hold an area, those with the bytes of the area after a pack hold that one, where it fits
abbrev pub HoldsPacked : Type 0
HoldsPacked = (limit : ℕ) (loaded : Loaded) (before after : Files) → IsSound limit loaded → (packed loaded).texts_len ≤ TEXTS_CEILING
    → IsReadAgain (packed loaded) → Loads loaded before → ArePacked loaded before after → Loads (packed loaded) after

-- a sound area is sound after a pack, where it fits
abbrev pub PackKeepsSound : Type 0
PackKeepsSound = (limit : ℕ) (loaded : Loaded) → IsSound limit loaded → (packed loaded).texts_len ≤ TEXTS_CEILING → IsSound limit (packed loaded)

-- what was copied stays so as long as .NDT is as it was and .JDT keeps the bytes that it had
abbrev pub CopiesStay : Type 0
CopiesStay = (shadow : Shadow) (before after : Files) → HasCopies shadow before → after Ndt ≡ before Ndt
    → take (length (before Jdt)) (after Jdt) ≡ before Jdt → HasCopies shadow after
