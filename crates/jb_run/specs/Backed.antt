-- What a packer makes of its targets.
use Rattle.std.specs.Prelude.{◌≡◌, ◌⊎◌, ℕ, ◌<◌, Bool, true, false, List, [], ◌∷◌, ◌++◌, length, map, slice_index_or, Option, Some, None}
use Rattle.std.specs.Option.{option_map}
use Rattle.jb_conf.specs.declared.board.BoardArea.{BoardArea}
use Rattle.jb_disk.specs.Device.{Device}
use Rattle.jb_host.specs.Desk.{Desk, TakesBack}
use Rattle.jb_server.specs.Laws.{IsBackedUp, IsNotBackedUp}
use Rattle.jb_server.specs.Packers.{Backup, PackerState}
use Rattle.jb_server.specs.Rounds.{Rung}
use Rattle.jb_session.specs.Exchanges.{node_with}
use Rattle.jb_shared.specs.Passes.{PassView}

-- the targets of a packer: as it gets them, as it leaves them, and what came of the backups
pub record Targets : Type 0 where
  pub first : List Device
  pub left : List Device
  pub backups : List Backup

-- targets that are all there
abbrev pub all_there : List Device → List (Option Device)
all_there targets = map (λ target. Some target) targets

-- of disks that show themselves so, these targets are all there and are these
abbrev pub ShowTargets : {E : Type 0} → (E → Device) → List (Option E) → List Device → Type 0
ShowTargets device targets shown = map (option_map device) targets ≡ all_there shown

-- nothing came of a backup onto any of these yet
abbrev pub none_of : List Device → List Backup
none_of targets = map (λ _. None) targets

-- a packer with these readings and passes, these targets, and with what came of the backups
abbrev pub packer_at : Option (List ℕ) → List PassView → List Device → List Backup → PackerState
packer_at readings passes targets backups = record { node = node_with readings passes None; targets = all_there targets; backups = backups }

-- each target is as it was where no ring came for its area, else as the one backup of that area has left it
abbrev pub AreBackedUp : List Device → List Rung → PackerState → PackerState → Type 0
AreBackedUp targets rungs from to =
    (k : ℕ) (target : Device) → k < length targets → IsNotBackedUp k rungs from to ⊎ IsBackedUp k (slice_index_or targets k target) rungs from to

-- of disks that show themselves so, the last of these targets was put back in this folder, under the name of its area's base; or there was none
abbrev pub PutsLast : {E : Type 0} → (E → Device) → List ℕ → List BoardArea → List (Option E) → List (Option E) → Desk → Desk → Bool → Type 0
PutsLast device dir areas more fewer old new true =
    (target : _) × (more ≡ fewer ++ Some target ∷ []) × ((area : BoardArea) → TakesBack dir (slice_index_or areas (length fewer) area).base (device target) old new)
PutsLast device dir areas more fewer old new false = (more ≡ []) × (new ≡ old)
