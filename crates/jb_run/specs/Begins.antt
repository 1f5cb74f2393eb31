-- Why nobody is served, and what is left of the host then.
use Rattle.std.specs.Prelude.{◌≡◌, ◌⊎◌, ℕ, ◌+◌, ◌≤◌, List, Option, Some, Ok, Err}
use Rattle.std.specs.Option.{ForSome}
use Rattle.jb_area_open.specs.declared.error.OpeningError.TheVariants.{Base}
use Rattle.jb_bytes.specs.Fault.{Rose}
use Rattle.jb_conf.specs.Settings.{ReadsSettings}
use Rattle.jb_conf.specs.declared.board.Board.{Board}
use Rattle.jb_conf.specs.declared.error.ConfError.{ConfError}
use Rattle.jb_conf.specs.declared.error.ConfError.TheVariants.{Repeated}
use Rattle.jb_conf.specs.declared.field.AreaKey.TheVariants.{Base as OfBase}
use Rattle.jb_conf.specs.declared.field.Field.TheVariants.{Area as OfArea}
use Rattle.jb_disk.specs.Device.{Device}
use Rattle.jb_host.specs.Desk.{Desk, Disks, GivesSettings, KeepsRest, DiskPlace, RefusesCall, asked_settings, handed_out, has_disk, no_disk}
use Rattle.jb_host.specs.Gate.{Gate}
use Rattle.jb_host.specs.declared.host.HostError.{HostError}
use Rattle.jb_image.specs.declared.error.OpenError.TheVariants.{StoreFault}
use Rattle.jb_run.specs.All.{Abandons, RefusesAll}
use Rattle.jb_run.specs.Desks.{HandsOut, PutsBack, places_of}
use Rattle.jb_run.specs.Lines.{PutsDoors, nodes_of}
use Rattle.jb_run.specs.LocalEnding.{of_areas, of_host, of_settings}
use Rattle.jb_run.specs.declared.areas_error.AreasError.{AreasError}
use Rattle.jb_run.specs.declared.error.RunError.{RunError}
use Rattle.jb_run.specs.declared.error.RunError.TheVariants.{Area, HostFault, Settings}
use Rattle.jb_run.specs.Targets.{HaveAllTargets, IsFirstWithout, StopsAsking}

-- the board that a settings file says
pub record HasBoard (path : List ℕ) (board : Board) (old new : Desk) : Type 0 where
  pub bytes : List ℕ
  pub gives : GivesSettings path bytes old new
  pub reads : ReadsSettings bytes (Ok board)

-- the host has no settings file there
pub record HasNoSettings (path : List ℕ) (old new : Desk) (error : RunError) : Type 0 where
  pub why : HostError
  pub is : error ≡ of_host why
  pub refuses : RefusesCall (asked_settings path) why old new

-- the settings are refused, or memory was wanting to read them
pub record RefusesSettings (path : List ℕ) (old new : Desk) (error : RunError) : Type 0 where
  pub bytes : List ℕ
  pub why : ConfError
  pub is : error ≡ of_settings why
  pub gives : GivesSettings path bytes old new
  pub reads : ReadsSettings bytes (Err why)

-- the areas that the settings say are not opened
pub record RefusesAreas (path : List ℕ) (old new : Desk) (error : RunError) : Type 0 where
  pub board : Board
  pub mid : Desk
  pub has : HasBoard path board old mid
  pub why : AreasError
  pub is : error ≡ of_areas why
  pub refuses : RefusesAll board.areas mid new why

-- the settings are read, and an area has no target of its own in the folder for backups
pub record LacksTarget (path : List ℕ) (backup : Option (List ℕ)) (old new : Desk) (error : RunError) : Type 0 where
  pub board : Board
  pub has : HasBoard path board old new
  pub dir : List ℕ
  pub folder : backup ≡ Some dir
  pub place : ℕ
  pub first : IsFirstWithout dir board.areas place
  pub is : error ≡ Settings (Repeated (OfArea (place + 1) OfBase))

-- the areas were opened, and a target, a door or the bell was refused; the doors and the targets that were handed out are back as they were, and
-- each disk is left at just what its files opened to
pub record RefusesCalls (path : List ℕ) (most : Option ℕ) (backup : Option (List ℕ)) (old new : Desk) (error : RunError) : Type 0 where
  pub board : Board
  pub read : Desk
  pub has : HasBoard path board old read
  pub targeted : HaveAllTargets backup board.areas
  pub befores : List Device
  pub opened : Desk
  pub out : HandsOut (places_of board.areas) befores read opened
  pub targets : List Device
  pub gates : List Gate
  pub why : HostError
  pub is : error ≡ of_host why
  pub asked : Desk
  pub stops : StopsAsking board most backup targets gates why opened asked
  pub shut : Desk
  pub doors_back : PutsDoors (nodes_of stops.done) gates asked shut
  pub closed : Desk
  pub abandons : Abandons board.areas befores shut closed
  pub targets_back : PutsBack stops.placed targets closed new

-- a run with many nodes is not begun: with a folder for backups an area has no target there, or a call behind the opening of the areas was refused
abbrev pub RefusesLines : List ℕ → Option ℕ → Option (List ℕ) → Desk → Desk → RunError → Type 0
RefusesLines path most backup old new error = LacksTarget path backup old new error ⊎ RefusesCalls path most backup old new error

-- where a disk stood, one stands again; elsewhere all is as before
abbrev pub IsBack : DiskPlace → DiskPlace → Type 0
IsBack (has_disk was) now = (device : Device) × (now ≡ has_disk device)
IsBack no_disk now = now ≡ no_disk
IsBack handed_out now = now ≡ handed_out

-- each disk is back, where the host tells its disks
abbrev pub AllBack : Option Disks → Option Disks → Type 0
AllBack old new = ForSome old (λ was. (now : Disks) × (new ≡ Some now) × ((dir name : List ℕ) → IsBack (was dir name) (now dir name)))

-- nobody is served, and why: the first refusal that comes, for many nodes also such a one; all that was handed out is back
pub record BeginsNone (Lines : Type 0) (path : List ℕ) (old new : Desk) (error : RunError) : Type 0 where
  pub why : HasNoSettings path old new error ⊎ (RefusesSettings path old new error ⊎ (RefusesAreas path old new error ⊎ Lines))
  pub disks : AllBack old.disks new.disks
  -- nothing else of the host has changed but its calls and its counts, and its doors where lines were asked for
  pub rest : KeepsRest old (record new { faults = old.faults; failed = old.failed; waiting = old.waiting; doors = old.doors })
  pub doors : (Lines → ⊥) → (new.waiting ≡ old.waiting) × (new.doors ≡ old.doors)
  -- the host has failed just where that is the refusal
  pub cause : error ≡ HostFault → Rose old.faults new.faults
  pub steady : (error ≡ HostFault → ⊥) → new.faults ≡ old.faults
  -- and a disk that came back had failed where the refusal is a fault of the store of an area
  pub no_fewer : old.failed ≤ new.failed
  pub store : (place : ℕ) → error ≡ Area place (Base StoreFault) → Rose old.failed new.failed
