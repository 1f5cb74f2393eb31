-- The disks onto which areas are backed up: which areas have one, and how they are handed out before the doors.
use Rattle.std.specs.Prelude.{◌≡◌, ℕ, ◌<◌, Bool, true, false, ◌||◌, bytes_eq, List, [], ◌∷◌, ◌++◌, length, map, slice_index_or, take, Option, Some, None}
use Rattle.std.specs.List.{list_any}
use Rattle.jb_conf.specs.declared.board.Board.{Board}
use Rattle.jb_conf.specs.declared.board.BoardArea.{BoardArea}
use Rattle.jb_disk.specs.Device.{Device}
use Rattle.jb_host.specs.Desk.{Desk, RefusesCall, asked_disk}
use Rattle.jb_host.specs.Gate.{Gate}
use Rattle.jb_host.specs.declared.host.HostError.{HostError}
use Rattle.jb_run.specs.Desks.{BasePlace, HandsOut}
use Rattle.jb_run.specs.Lines.{HandsDoors, Line, RefusesLine, lines_for}

-- where the target of an area is: in this folder, under the name of its base
abbrev pub target_of : List ℕ → BoardArea → BasePlace
target_of dir area = record { dir = dir; base = area.base }

-- where those of areas are, in order; without a folder for backups there are none
abbrev pub targets_for : Option (List ℕ) → List BoardArea → List BasePlace
targets_for None areas = []
targets_for (Some dir) areas = map (target_of dir) areas

-- one of these areas has this base
abbrev pub has_base : List ℕ → List BoardArea → Bool
has_base base areas = list_any (λ area. bytes_eq area.base base) areas

-- an area behind these has no target of its own in this folder: one of them has its base, or its own folder is this one
abbrev pub has_no_target : List ℕ → List BoardArea → BoardArea → Bool
has_no_target dir before area = has_base area.base before || bytes_eq area.dir dir

-- the first areas, so many, have one each
abbrev pub HaveTargets : List ℕ → List BoardArea → ℕ → Type 0
HaveTargets dir areas count = (k : ℕ) (area : BoardArea) → k < count → has_no_target dir (take k areas) (slice_index_or areas k area) ≡ false

-- where there is a folder for backups, each area has one there
abbrev pub HaveAllTargets : Option (List ℕ) → List BoardArea → Type 0
HaveAllTargets None areas = Unit {0}
HaveAllTargets (Some dir) areas = HaveTargets dir areas (length areas)

-- the area at this place, counted from 0, is the first that has none
pub record IsFirstWithout (dir : List ℕ) (areas : List BoardArea) (k : ℕ) : Type 0 where
  pub within : k < length areas
  pub is : (area : BoardArea) → has_no_target dir (take k areas) (slice_index_or areas k area) ≡ true
  pub others : HaveTargets dir areas k

-- these targets were handed out, and the next was refused
pub record StopsTargets (places : List BasePlace) (targets : List Device) (error : HostError) (old new : Desk) : Type 0 where
  pub done : List BasePlace
  pub next : BasePlace
  pub left : List BasePlace
  pub parts : places ≡ done ++ next ∷ left
  pub mid : Desk
  pub out : HandsOut done targets old mid
  pub refuses : RefusesCall (asked_disk next.dir next.base) error mid new

-- the next target was refused, and no door was asked for; or where all targets are out, the door of the next line, or the bell
abbrev pub RefusesNext : Board → Option ℕ → List BasePlace → List Line → List Line → HostError → Desk → Desk → Type 0
RefusesNext board most (place ∷ places) done left error old new = (done ≡ []) × RefusesCall (asked_disk place.dir place.base) error old new
RefusesNext board most [] done left error old new = RefusesLine board most left error old new

-- these targets and behind them these doors were handed out, and the next call was refused
pub record StopsAsking (board : Board) (most : Option ℕ) (backup : Option (List ℕ)) (targets : List Device) (gates : List Gate) (error : HostError) (old new : Desk) : Type 0 where
  pub placed : List BasePlace
  pub unplaced : List BasePlace
  pub places : targets_for backup board.areas ≡ placed ++ unplaced
  pub targeted : Desk
  pub out : HandsOut placed targets old targeted
  pub done : List Line
  pub left : List Line
  pub parts : lines_for board most ≡ done ++ left
  pub lined : Desk
  pub doors : HandsDoors done gates targeted lined
  pub refuses : RefusesNext board most unplaced done left error lined new
