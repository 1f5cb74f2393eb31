-- How texts are put, in parts that are read at once.
use Rattle.std.specs.Prelude.{◌≡◌, ℕ, ◌+◌, List, length, Option, Bool, true, false}
use Rattle.std.specs.Option.{ForSome}
use Rattle.jb_disk.specs.RedoView.{RedoView}
use Rattle.jb_disk.specs.Files.{Files}
use Rattle.jb_disk.specs.declared.file.FileId.TheVariants.{Jdt}
use Rattle.jb_image.specs.Places.{bytes_at}
use Rattle.jb_state.specs.declared.loaded.LoadedSlot.{LoadedSlot}
use Rattle.jb_pack.specs.Laid.{Lays}
use Rattle.jb_state.specs.Packed.{live_slots, texts_in, texts_size}
use Rattle.jb_pack.specs.declared.error.PackError.{PackError}
use Rattle.jb_pack.specs.declared.error.PackError.TheVariants.{OutOfMemory, StoreFault}
use Rattle.jb_pack.specs.declared.run.Run.{Run}

-- so many bytes more of .JDT, those of a part of it where the disk tells them
pub record PutsRun (contents : Option Files) (run : Run) (old new : RedoView) : Type 0 where
  pub bytes : List ℕ
  pub size : length bytes ≡ run.len
  pub lays : Lays Jdt 1 bytes old new
  pub told : ForSome contents (λ files. bytes ≡ bytes_at run.at run.len (files Jdt))

-- as many bytes more of .JDT as the texts of these slots have, and these texts where the disk tells them
pub record PutsTexts (contents : Option Files) (slots : List LoadedSlot) (old new : RedoView) : Type 0 where
  pub bytes : List ℕ
  pub size : length bytes ≡ texts_size slots
  pub lays : Lays Jdt (live_slots slots + 1) bytes old new
  pub told : ForSome contents (λ files. bytes ≡ texts_in (files Jdt) slots)

-- which refusals are faults of the disk
abbrev pub is_pack_fault : PackError → Bool
is_pack_fault StoreFault = true
is_pack_fault OutOfMemory = false
