-- That nobody is refused whose settings and bases are there and open.
use Rattle.std.specs.Prelude.{◌≡◌, ◌⊎◌, ℕ, ◌<◌, List, length, slice_index_or, Option, Some, Ok, Err}
use Rattle.jb_area_open.specs.Laws.{OpensWithin}
use Rattle.jb_bytes.specs.Fault.{Rose}
use Rattle.jb_conf.specs.Settings.{ReadsSettings}
use Rattle.jb_conf.specs.declared.board.Board.{Board}
use Rattle.jb_conf.specs.declared.board.BoardArea.{BoardArea}
use Rattle.jb_conf.specs.declared.error.ConfError.{ConfError}
use Rattle.jb_conf.specs.declared.error.ConfError.TheVariants.{OutOfMemory as no_memory}
use Rattle.jb_disk.specs.Device.{Device}
use Rattle.jb_disk.specs.Files.{Files}
use Rattle.jb_host.specs.Desk.{Desk, Disks, Pages, has_disk}
use Rattle.jb_run.specs.Begins.{BeginsNone, RefusesLines}
use Rattle.jb_run.specs.Targets.{HaveAllTargets}
use Rattle.jb_run.specs.declared.error.RunError.{RunError}
use Rattle.jb_run.specs.declared.error.RunError.TheVariants.{OutOfMemory}

-- there is a disk there whose files have this property
pub record HasFiles (property : Files → Type 0) (disks : Disks) (dir name : List ℕ) : Type 0 where
  pub device : Device
  pub stands : disks dir name ≡ has_disk device
  pub files : Files
  pub told : device.contents ≡ Some files
  pub has : property files

-- what settings say is a board of which the base of each area is there and opens, unless memory is wanting to read them; where there is a folder
-- for backups each area has a target there
pub record SayOpenBoard (disks : Disks) (backup : Option (List ℕ)) (bytes : List ℕ) : Type 0 where
  pub boards : (board : Board) → ReadsSettings bytes (Ok board) → (k : ℕ) (area : BoardArea) → k < length board.areas
      → HasFiles (OpensWithin (slice_index_or board.areas k area).rules.slots) disks (slice_index_or board.areas k area).dir (slice_index_or board.areas k area).base
  pub targeted : (board : Board) → ReadsSettings bytes (Ok board) → HaveAllTargets backup board.areas
  pub only : (error : ConfError) → ReadsSettings bytes (Err error) → error ≡ no_memory

-- the host has such settings at this path
pub record HasOpenBoard (desk : Desk) (path : List ℕ) (backup : Option (List ℕ)) : Type 0 where
  pub pages : Pages
  pub told : desk.settings ≡ Some pages
  pub bytes : List ℕ
  pub stands : pages path ≡ Some bytes
  pub disks : Disks
  pub disks_told : desk.disks ≡ Some disks
  pub say : SayOpenBoard disks backup bytes

-- no count of the host rose, nor that of what came back and had failed
pub record HasNotFailed (old new : Desk) : Type 0 where
  pub host : Rose old.faults new.faults → ⊥
  pub back : Rose old.failed new.failed → ⊥

-- where nothing has failed, nobody is refused of such a board but for want of memory: neither one caller, nor many, with backups or without
abbrev pub RefusesNoOpenBoard : Type 0
RefusesNoOpenBoard = (path : List ℕ) (most : Option ℕ) (backup : Option (List ℕ)) (old new : Desk) (error : RunError)
    → BeginsNone ⊥ path old new error ⊎ BeginsNone (RefusesLines path most backup old new error) path old new error → HasNotFailed old new
    → HasOpenBoard old path backup → error ≡ OutOfMemory
