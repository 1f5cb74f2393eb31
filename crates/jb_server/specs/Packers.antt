-- A packer as contracts see it, and what happens on one of its passes.
use Rattle.std.specs.Prelude.{◌≡◌, ◌≢◌, ℕ, ◌+◌, ◌-◌, ◌≤◌, List, length, map, slice_index_or, Option, None, Result}
use Rattle.std.specs.Option.{option_map}
use Rattle.jb_backup.specs.declared.error.BackupError.{BackupError}
use Rattle.jb_disk.specs.Device.{Device}
use Rattle.jb_session.specs.Exchanges.{NodeState, node_with}
use Rattle.jb_shared.specs.Passes.{Known, PassView}
use Rattle.jb_shared.specs.declared.backed.Backed.{Backed}

-- what came of the backup of an area, once one was tried
abbrev pub Backup : Type 0
Backup = Option (Result Backed BackupError)

-- a packer, with what it works by: its clock and its passes, the disks onto which areas are backed up, in order, and what came of the backups
pub record PackerState : Type 0 where
  pub node : NodeState
  pub targets : List (Option Device)
  pub backups : List Backup

-- one with these readings and passes, with these targets as they show themselves, and with these backups
abbrev pub packer_with : {E : Type 0} → (E → Device) → Option (List ℕ) → List PassView → List (Option E) → List Backup → PackerState
packer_with device readings passes targets backups =
    record { node = node_with readings passes None; targets = map (option_map device) targets; backups = backups }

-- this happens on the pass of the area with this number, from 1; the other passes stay
pub record OnPass (number : ℕ) (happens : Known → Known → Type 0) (old new : List PassView) : Type 0 where
  pub some : 1 ≤ number
  pub within : number ≤ length old
  pub does : (pass : PassView) → happens (slice_index_or old (number - 1) pass).known (slice_index_or new (number - 1) pass).known
  pub count : length new ≡ length old
  pub others : (k : ℕ) (pass : PassView) → k + 1 ≢ number → slice_index_or new k pass ≡ slice_index_or old k pass
