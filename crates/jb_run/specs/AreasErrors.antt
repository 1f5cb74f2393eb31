-- Why an area of a board is not opened, and what is left then.
use Rattle.std.specs.Prelude.{◌≡◌, ◌⊎◌, ℕ, ◌≤◌}
use Rattle.jb_area_open.specs.Opening.{KeepsOpening, OpensFirmly, Refuses, is_opening_fault}
use Rattle.jb_area_open.specs.declared.error.OpeningError.{OpeningError}
use Rattle.jb_area_open.specs.declared.error.OpeningError.TheVariants.{BadJournal, Base}
use Rattle.jb_conf.specs.declared.board.BoardArea.{BoardArea}
use Rattle.jb_disk.specs.Device.{Device, RoseIf}
use Rattle.jb_host.specs.Desk.{Desk, GivesDisk, RefusesCall, TakesBack, asked_disk}
use Rattle.jb_host.specs.declared.host.HostError.{HostError}
use Rattle.jb_host.specs.declared.host.HostError.TheVariants.{Failed, OutOfMemory as no_host_memory}
use Rattle.jb_image.specs.declared.error.OpenError.TheVariants as refused
use Rattle.jb_run.specs.declared.areas_error.AreasError.{AreasError}
use Rattle.jb_run.specs.declared.areas_error.AreasError.TheVariants.{Area, HostFault, OutOfMemory}

-- a refusal of the host, as one of the areas
abbrev pub refused_by_host : HostError → AreasError
refused_by_host Failed = HostFault
refused_by_host no_host_memory = OutOfMemory

-- the refusal of the area at this place
abbrev pub refused_at : ℕ → OpeningError → AreasError
refused_at place (BadJournal at) = Area place (BadJournal at)
refused_at place (Base refused.OutOfMemory) = OutOfMemory
refused_at place (Base error) = Area place (Base error)

-- the area is refused for this over its disk, of which a crash meanwhile leaves files that open as some might have before
pub record RefusesDisk (place slots : ℕ) (before after : Device) (error : AreasError) : Type 0 where
  pub why : OpeningError
  pub is : error ≡ refused_at place why
  pub refuses : Refuses slots before after why
  pub cause : RoseIf (is_opening_fault why) before.faults after.faults
  pub crash : KeepsOpening before after
  pub firm : OpensFirmly before after
  pub later : before.faults ≤ after.faults

-- the area is open, and memory is wanting to share it
pub record LacksRoom (before after : Device) (error : AreasError) : Type 0 where
  pub is : error ≡ OutOfMemory
  pub crash : KeepsOpening before after
  pub firm : OpensFirmly before after
  pub faults : after.faults ≡ before.faults

-- the disk was handed out and put back
pub record ReturnsDisk (place : ℕ) (area : BoardArea) (old new : Desk) (error : AreasError) : Type 0 where
  pub mid : Desk
  pub before : Device
  pub after : Device
  pub gives : GivesDisk area.dir area.base before old mid
  pub back : TakesBack area.dir area.base after mid new
  pub why : RefusesDisk place area.rules.slots before after error ⊎ LacksRoom before after error

-- the host refused the disk
pub record HasNoDisk (area : BoardArea) (old new : Desk) (error : AreasError) : Type 0 where
  pub why : HostError
  pub is : error ≡ refused_by_host why
  pub refuses : RefusesCall (asked_disk area.dir area.base) why old new

-- memory was wanting before the host was asked
abbrev pub AsksNothing : Desk → Desk → AreasError → Type 0
AsksNothing old new error = (error ≡ OutOfMemory) × (new ≡ old)

-- the area at this place is not opened and shared, and why
abbrev pub RefusesArea : ℕ → BoardArea → Desk → Desk → AreasError → Type 0
RefusesArea place area old new error = ReturnsDisk place area old new error ⊎ (HasNoDisk area old new error ⊎ AsksNothing old new error)
