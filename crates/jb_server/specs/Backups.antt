-- The backup of an area behind its first ring.
use Rattle.std.specs.Prelude.{◌≡◌, ℕ, ◌-◌, List, All, IsSome, length, slice_index_or, slice_set, Option, None, Some, Result}
use Rattle.jb_backup.specs.declared.error.BackupError.{BackupError}
use Rattle.jb_disk.specs.Device.{Device}
use Rattle.jb_shared.specs.Backups.{BacksUp}
use Rattle.jb_shared.specs.Passes.{Known}
use Rattle.jb_shared.specs.declared.backed.Backed.{Backed}
use Rattle.jb_server.specs.Packers.{Backup, OnPass, PackerState}

-- there is a place for what comes of a backup onto each target, and each target is there
pub record HasTargets {E : Type 0} (targets : List (Option E)) (backups : List Backup) : Type 0 where
  pub count : length backups ≡ length targets
  pub there : All IsSome targets

-- the target, where no backup onto it was tried yet
abbrev pub due : {T : Type 0} → Option T → Backup → Option T
due target None = target
due target (Some result) = None

-- the target at a place, where there is one and no backup onto it was tried yet
abbrev pub due_at : {T : Type 0} → ℕ → List (Option T) → List Backup → Option T
due_at k targets backups = due (slice_index_or targets k None) (slice_index_or backups k None)

-- on a pass an area is backed up onto a target, which is there and stays there
abbrev pub BacksUpOn : Option Device → Option Device → Known → Known → Result Backed BackupError → Type 0
BacksUpOn (Some target) (Some left) before after result = BacksUp before after target left result
BacksUpOn _ _ before after result = ⊥

-- the area with this number is backed up onto its target on its pass, and what came of it is kept at its place; all else stays
pub record BacksUpOnto (number : ℕ) (target : Device) (old new : PackerState) : Type 0 where
  pub result : Result Backed BackupError
  pub left : Device
  pub backs : OnPass number (λ before after. BacksUp before after target left result) old.node.passes new.node.passes
  pub readings : new.node.readings ≡ old.node.readings
  pub targets : new.targets ≡ slice_set old.targets (number - 1) (Some left)
  pub backups : new.backups ≡ slice_set old.backups (number - 1) (Some result)

-- it is backed up onto this target, where there is one; else nothing happens
abbrev pub BacksUpDue : ℕ → Option Device → PackerState → PackerState → Type 0
BacksUpDue number None old new = new ≡ old
BacksUpDue number (Some target) old new = BacksUpOnto number target old new

-- the area with this number is backed up, where it has a target onto which no backup was tried yet; else nothing happens
abbrev pub BacksUpOnce : ℕ → PackerState → PackerState → Type 0
BacksUpOnce number old new = BacksUpDue number (due_at (number - 1) old.targets old.backups) old new
