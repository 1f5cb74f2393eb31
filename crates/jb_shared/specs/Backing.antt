-- How the texts of an area are copied in several turns, and what a copier has copied between two of them.
use Rattle.std.specs.Prelude.{◌≡◌, ◌⊎◌, ℕ, ◌<◌, ◌≤◌, Bool, List, Option, Some, Result, OnOk, IfErr}
use Rattle.std.specs.Option.{ForSome}
use Rattle.jb_area.specs.Commits.{last_count}
use Rattle.jb_backup.specs.Answers.{CopiesSome, IsFault, MayRefuse, is_target_fault}
use Rattle.jb_backup.specs.Target.{HasBegun, HasFront, IsFront, IsUnsigned}
use Rattle.jb_backup.specs.declared.error.BackupError.{BackupError}
use Rattle.jb_backup.specs.declared.error.BackupError.TheVariants.{OutOfMemory}
use Rattle.jb_disk.specs.Device.{CountsFaults, Device, TellsAlike}
use Rattle.jb_disk.specs.Files.{Files}
use Rattle.jb_disk.specs.Runs.{LeavesOnly}
use Rattle.jb_disk.specs.declared.file.FileId.TheVariants.{Jdt}
use Rattle.jb_model.specs.declared.entry.Entry.{Entry}
use Rattle.jb_turn.specs.Rows.{Begins}
use Rattle.jb_shared.specs.Histories.{Tells}
use Rattle.jb_shared.specs.Passes.{Known}
use Rattle.jb_shared.specs.Stepping.{HasTaken}
use Rattle.jb_shared.specs.Texts.{text_files_at}
use Rattle.jb_shared.specs.declared.backing.Backing.{Backing}
use Rattle.jb_shared.specs.declared.opening.Opening.{Opening}

-- why a target is not begun: for want of memory, and then nothing was asked of it, or as a copier refuses it
abbrev pub MayNotBegin : Device → Device → BackupError → Type 0
MayNotBegin old new OutOfMemory = new ≡ old
MayNotBegin old new error = MayRefuse old new error

-- what was copied behind so many packs goes on behind so many: they are the same, and not the last number, which tells nothing
abbrev pub GoesOn : Option ℕ → ℕ → Type 0
GoesOn before packs = (before ≡ Some packs) × (packs < last_count)

-- how much is copied as a turn begins that finds so many packs: as much as before; or nothing, and then the area was packed between
-- two turns, or may have been
abbrev pub IsRenewed : Backing → ℕ → ℕ → Type 0
IsRenewed backing packs copied = (GoesOn backing.packs packs × (copied ≡ backing.copier)) ⊎ ((copied ≡ 0) × (backing.packs ≡ Some packs → last_count ≤ packs))

-- a part of the texts of these files, which no call changes, is copied below an end, behind so many packs
pub record CopiesPart (end packs : ℕ) (files : Files) (old new : Backing) (target target_now : Option Files) (more : Bool) : Type 0 where
  pub from : ℕ
  pub renewed : IsRenewed old packs from
  pub copies : CopiesSome end (files Jdt) from new.copier more
  pub front : HasFront from files target → HasFront new.copier files target_now

-- so much is copied of the texts that the area had after this part of its history, behind as many packs as it had then
pub record HasCopied (opening : Opening) (part : List Entry) (backing : Backing) (target : Device) : Type 0 where
  pub packs : backing.packs ≡ Some (text_files_at opening part).now.packs
  pub front : ForSome target.contents (λ files. IsFront backing.copier (text_files_at opening part).now.bytes (files Jdt))

-- where the area's disk tells its files: nothing is copied yet, or a beginning of the texts that the area had in one of the turns so far
abbrev pub IsCopiedOf : Known → Backing → Device → Type 0
IsCopiedOf known backing target = (opening : Opening) → known.opening ≡ Some opening → Tells opening
    → (backing.copier ≡ 0) ⊎ ((part : List Entry) × Begins part known.front × HasCopied opening part backing target)

-- the target is begun, and what is copied onto it is of the area
pub record IsReady (known : Known) (backing : Backing) (target : Device) : Type 0 where
  pub begun : HasBegun backing.copier target
  pub copied : IsCopiedOf known backing target

-- turns in which texts are copied: nothing is known then but more of the history, and the target stays unsigned; they end by a fault, or
-- the next turn goes on
pub record CopiesOnto {T : Type 0} (old new : Known) (backing : Backing) (target target_now : Device) (result : Result T BackupError) : Type 0 where
  pub taken : HasTaken old new
  pub ready : OnOk result (IsReady new backing target_now)
  pub crash : LeavesOnly target target_now IsUnsigned
  pub fault : IfErr result IsFault
  pub faults : CountsFaults is_target_fault target target_now result
  pub alike : TellsAlike target target_now
