-- That a run fails only where something has failed, and that what is there and opens is served.
use Rattle.std.specs.Prelude.{◌≡◌, ◌≢◌, ◌⊎◌, ℕ, List, Option, Some, None}
use Rattle.jb_area_open.specs.Laws.{OpensWithin}
use Rattle.jb_backup.specs.Target.{AreEmpty}
use Rattle.jb_bytes.specs.Fault.{Rose}
use Rattle.jb_host.specs.Desk.{Desk, Disks}
use Rattle.jb_host.specs.Gate.{Gate}
use Rattle.jb_host.specs.Rings.{Rings}
use Rattle.jb_host.specs.Wire.{Wire}
use Rattle.jb_limits.specs.declared.limits.TheConstants.{MOST_SLOTS}
use Rattle.jb_run.specs.Laws.{HasFiles, HasNotFailed, HasOpenBoard}
use Rattle.jb_tool.specs.Laws.{HoldNoBase}
use Rattle.jb_tool.specs.declared.tool.Tool.{Tool}
use Rattle.jb_tool.specs.declared.tool.Tool.TheVariants.{List as Listing, Check, Make, Pack, Relink}
use Rattle.jb_board.specs.Run.{HasRun}
use Rattle.jb_board.specs.Words.{Words, use_tool, back_up, run_load, serve_one, serve_all, show_help, command_line_of}

-- nothing has failed: no count of the host rose, nor that of what came back and had failed, nor that of the console
pub record NothingFailed (old new : Desk) : Type 0 where
  pub host : HasNotFailed old new
  pub console : (was now : Wire) → old.console ≡ Some was → new.console ≡ Some now → Rose was.faults now.faults → ⊥

-- the base of a tool is there and opens; of `make` one may also be none
abbrev pub IsForTool : Tool → Disks → List ℕ → List ℕ → Type 0
IsForTool Listing disks dir name = HasFiles (OpensWithin MOST_SLOTS) disks dir name
IsForTool Check disks dir name = HasFiles (OpensWithin MOST_SLOTS) disks dir name
IsForTool Make disks dir name = HasFiles (OpensWithin MOST_SLOTS) disks dir name ⊎ HasFiles HoldNoBase disks dir name
IsForTool Pack disks dir name = HasFiles (OpensWithin MOST_SLOTS) disks dir name
IsForTool Relink disks dir name = HasFiles (OpensWithin MOST_SLOTS) disks dir name

-- what the words ask for is there and opens
abbrev pub IsThere : Option Words → Desk → Type 0
IsThere None old = Unit {0}
IsThere (Some (use_tool tool dir name)) old = (disks : Disks) × (old.disks ≡ Some disks) × IsForTool tool disks dir name
IsThere (Some (back_up dir name onto)) old =
    (disks : Disks) × (old.disks ≡ Some disks) × HasFiles (OpensWithin MOST_SLOTS) disks dir name × HasFiles AreEmpty disks onto name
IsThere (Some (run_load seed count)) old = Unit {0}
IsThere (Some (serve_one path)) old = HasOpenBoard old path None
IsThere (Some (serve_all path calls backup)) old = HasOpenBoard old path backup
IsThere (Some show_help) old = Unit {0}

-- done, or there was no memory
abbrev pub IsDone : ℕ → Type 0
IsDone status = (status ≡ 0) ⊎ (status ≡ 6)

-- the status of a tool: there may be a base already, or the texts to pack are too long
abbrev pub IsToolServed : Tool → ℕ → Type 0
IsToolServed Listing status = IsDone status
IsToolServed Check status = IsDone status
IsToolServed Make status = IsDone status ⊎ (status ≡ 3)
IsToolServed Pack status = IsDone status ⊎ (status ≡ 3)
IsToolServed Relink status = IsDone status

-- with which status the words are served: the board may have ended a session
abbrev pub IsServedWith : Option Words → ℕ → Type 0
IsServedWith None status = status ≡ 1
IsServedWith (Some (use_tool tool dir name)) status = IsToolServed tool status
IsServedWith (Some (back_up dir name onto)) status = IsDone status
IsServedWith (Some (run_load seed count)) status = IsDone status
IsServedWith (Some (serve_one path)) status = IsDone status ⊎ (status ≡ 7)
IsServedWith (Some (serve_all path calls backup)) status = IsDone status
IsServedWith (Some show_help) status = IsDone status

-- whatever a host says of its doors and its bell
module _ (door_for : Option ℕ → Gate → Type 0) (bell_over : ℕ → ℕ → Option ℕ → Rings → Type 0) where
  -- where nothing has failed, no run says that a store or the host has
  abbrev pub FailsByFaultsAlone : Type 0
  FailsByFaultsAlone = (words : List (List ℕ)) (old new : Desk) (status : ℕ) → HasRun door_for bell_over words old new status → NothingFailed old new
      → (status ≢ 4) × (status ≢ 5)

  -- where nothing has failed, what is there and opens is served
  abbrev pub ServesWhatIsThere : Type 0
  ServesWhatIsThere = (words : List (List ℕ)) (old new : Desk) (status : ℕ) → HasRun door_for bell_over words old new status → NothingFailed old new
      → IsThere (command_line_of words) old → IsServedWith (command_line_of words) status
