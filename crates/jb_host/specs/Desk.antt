-- What is known of a host before and after a call.
use Rattle.std.specs.Prelude.{◌≡◌, ◌==◌, ℕ, ◌<◌, ◌≤◌, bytes_eq, ◌&&◌, List, [], ◌∷◌, ◌++◌, Option, Some, None, if◌then◌else◌}
use Rattle.std.specs.Option.{ForSome, option_map}
use Rattle.jb_bytes.specs.Fault.{Rose}
use Rattle.jb_disk.specs.Device.{Device}
use Rattle.jb_host.specs.declared.host.HostError.{HostError}
use Rattle.jb_host.specs.declared.host.HostError.TheVariants.{Failed, OutOfMemory}
use Rattle.jb_host.specs.Gate.{Gate}
use Rattle.jb_host.specs.Rings.{Rings}
use Rattle.jb_host.specs.Wire.{Wire}

-- a call that a host tells: it was asked for the disk of a base, by folder and name; for the settings file at a path; for the door of a
-- node, at a port and for so many calls; or for a bell over so many areas, each after so many minutes or once where calls are counted
pub data HostCall : Type 0 where
  asked_disk : List ℕ → List ℕ → HostCall
  asked_settings : List ℕ → HostCall
  asked_door : ℕ → ℕ → Option ℕ → HostCall
  asked_bell : ℕ → ℕ → Option ℕ → HostCall

-- what a host has at a folder and a name: no disk, one that it handed out, or this one
pub data DiskPlace : Type 0 where
  no_disk : DiskPlace
  handed_out : DiskPlace
  has_disk : Device → DiskPlace

-- the disks of a host, by folder and name
abbrev pub Disks : Type 0
Disks = List ℕ → List ℕ → DiskPlace

-- the same disks, but for one place
abbrev pub with_place : List ℕ → List ℕ → DiskPlace → Disks → Disks
with_place dir name place disks other_dir other_name =
    if bytes_eq other_dir dir && bytes_eq other_name name then place else disks other_dir other_name

-- what is found first: this place, or where no disk has it, that one
abbrev pub or_behind : DiskPlace → DiskPlace → DiskPlace
or_behind no_disk behind = behind
or_behind handed_out behind = handed_out
or_behind (has_disk device) behind = has_disk device

-- the same disks and one more behind them, found at its folder and name where none was
abbrev pub with_behind : List ℕ → List ℕ → DiskPlace → Disks → Disks
with_behind dir name place disks other_dir other_name =
    or_behind (disks other_dir other_name) (if bytes_eq other_dir dir && bytes_eq other_name name then place else no_disk)

-- the settings files of a host, by path
abbrev pub Pages : Type 0
Pages = List ℕ → Option (List ℕ)

-- what is found first: this file, or where there is none, that one
abbrev pub or_page : Option (List ℕ) → Option (List ℕ) → Option (List ℕ)
or_page None behind = behind
or_page (Some bytes) behind = Some bytes

-- the same files and one more behind them, found at its path where none was
abbrev pub with_page_behind : List ℕ → List ℕ → Pages → Pages
with_page_behind path bytes pages other = or_page (pages other) (if bytes_eq other path then Some bytes else None)

-- what became of the door of a node: none was handed out for it, it is out, or it came back so
pub data Entrance : Type 0 where
  no_door : Entrance
  door_out : Entrance
  has_door : Gate → Entrance

-- the doors of a host that it has handed out, by node
abbrev pub Doors : Type 0
Doors = ℕ → Entrance

-- the same doors, but for that of one node
abbrev pub with_door : ℕ → Entrance → Doors → Doors
with_door node entrance doors other = if other == node then entrance else doors other

-- the bell of a host: it has none, handed it out, or has this one
pub data Belfry : Type 0 where
  no_bell : Belfry
  bell_out : Belfry
  has_bell : Rings → Belfry

-- a host, as its user sees it
pub record Desk : Type 0 where
  -- how often it has failed
  pub faults : ℕ
  -- the count of the disks and doors that it took back and that had failed
  pub failed : ℕ
  -- the calls for disks, settings, doors and a bell that it answered other than for want of memory, in order, where it tells them
  pub calls : Option (List HostCall)
  -- its disks, where it tells them
  pub disks : Option Disks
  -- its settings files, where it tells them
  pub settings : Option Pages
  -- the console, while it is not out
  pub console : Option Wire
  -- the readings that each of its clocks will give, where it tells them
  pub readings : Option (List ℕ)
  -- the doors that it will hand out, in order, where it tells them
  pub waiting : Option (List Gate)
  -- those that it has handed out, where it tells them
  pub doors : Option Doors
  -- its bell, where it tells it
  pub bell : Option Belfry

-- a call more, where the host tells them
abbrev pub and_call : HostCall → Option (List HostCall) → Option (List HostCall)
and_call call calls = option_map (λ earlier. earlier ++ call ∷ []) calls

-- nothing of the host has changed but its disks and its calls
pub record KeepsRest (old new : Desk) : Type 0 where
  pub settings : new.settings ≡ old.settings
  pub console : new.console ≡ old.console
  pub readings : new.readings ≡ old.readings
  pub faults : new.faults ≡ old.faults
  pub failed : new.failed ≡ old.failed
  pub waiting : new.waiting ≡ old.waiting
  pub doors : new.doors ≡ old.doors
  pub bell : new.bell ≡ old.bell

-- a disk was handed out: the one that was there; no fault was counted
pub record GivesDisk (dir name : List ℕ) (device : Device) (old new : Desk) : Type 0 where
  pub was : ForSome old.disks (λ disks. disks dir name ≡ has_disk device)
  pub out : new.disks ≡ option_map (with_place dir name handed_out) old.disks
  pub calls : new.calls ≡ and_call (asked_disk dir name) old.calls
  pub rest : KeepsRest old new

-- the settings file was given, which stays where it is; no fault was counted
pub record GivesSettings (path bytes : List ℕ) (old new : Desk) : Type 0 where
  pub was : ForSome old.settings (λ pages. pages path ≡ Some bytes)
  pub disks : new.disks ≡ old.disks
  pub calls : new.calls ≡ and_call (asked_settings path) old.calls
  pub rest : KeepsRest old new

-- a door was handed out for the node: the first of those that wait; no fault was counted
pub record GivesDoor (node port : ℕ) (most : Option ℕ) (gate : Gate) (old new : Desk) : Type 0 where
  pub first : old.waiting ≡ option_map (λ rest. gate ∷ rest) new.waiting
  pub out : new.doors ≡ option_map (with_door node door_out) old.doors
  pub disks : new.disks ≡ old.disks
  pub calls : new.calls ≡ and_call (asked_door node port most) old.calls
  pub rest : KeepsRest old (record new { waiting = old.waiting; doors = old.doors })

-- the bell was handed out; no fault was counted
pub record GivesBell (areas minutes : ℕ) (most : Option ℕ) (rings : Rings) (old new : Desk) : Type 0 where
  pub was : ForSome old.bell (λ bell. bell ≡ has_bell rings)
  pub out : new.bell ≡ option_map (λ _. bell_out) old.bell
  pub disks : new.disks ≡ old.disks
  pub calls : new.calls ≡ and_call (asked_bell areas minutes most) old.calls
  pub rest : KeepsRest old (record new { bell = old.bell })

-- the calls that a host tells after it refused one
abbrev pub calls_after : HostError → HostCall → Option (List HostCall) → Option (List HostCall)
calls_after Failed call calls = and_call call calls
calls_after OutOfMemory call calls = calls

-- the cause of a refusal, by the counts of faults before and after; want of memory hides no fault
abbrev pub HasHostCause : HostError → ℕ → ℕ → Type 0
HasHostCause Failed before now = Rose before now
HasHostCause OutOfMemory before now = now ≡ before

-- nothing was handed out at this call, and why
pub record RefusesCall (call : HostCall) (error : HostError) (old new : Desk) : Type 0 where
  pub disks : new.disks ≡ old.disks
  pub calls : new.calls ≡ calls_after error call old.calls
  pub rest : KeepsRest old (record new { faults = old.faults })
  pub later : old.faults ≤ new.faults
  pub cause : HasHostCause error old.faults new.faults

-- of what came back and had failed so often: the count rises where it had at all, and else stays
pub record CountsFailed (faults before now : ℕ) : Type 0 where
  pub rose : 0 < faults → Rose before now
  pub quiet : faults ≡ 0 → now ≡ before
  pub later : before ≤ now

-- a disk that was handed out for this place is there again
pub record TakesBack (dir name : List ℕ) (device : Device) (old new : Desk) : Type 0 where
  pub back : ForSome old.disks (λ disks. disks dir name ≡ handed_out → new.disks ≡ option_map (with_place dir name (has_disk device)) old.disks)
  pub calls : new.calls ≡ old.calls
  pub failed : CountsFailed device.faults old.failed new.failed
  pub rest : KeepsRest old (record new { failed = old.failed })

-- a door that was handed out for this node is back
pub record TakesDoor (node : ℕ) (gate : Gate) (old new : Desk) : Type 0 where
  pub back : ForSome old.doors (λ doors. doors node ≡ door_out → new.doors ≡ option_map (with_door node (has_door gate)) old.doors)
  pub disks : new.disks ≡ old.disks
  pub calls : new.calls ≡ old.calls
  pub failed : CountsFailed gate.faults old.failed new.failed
  pub rest : KeepsRest old (record new { doors = old.doors; failed = old.failed })

-- the bell that was handed out is back
pub record TakesBell (rings : Rings) (old new : Desk) : Type 0 where
  pub back : ForSome old.bell (λ bell. bell ≡ bell_out → new.bell ≡ Some (has_bell rings))
  pub disks : new.disks ≡ old.disks
  pub calls : new.calls ≡ old.calls
  pub rest : KeepsRest old (record new { bell = old.bell })
