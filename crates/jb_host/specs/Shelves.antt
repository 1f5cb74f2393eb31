-- The disks, settings and calls of a host in memory, and all that it tells.
use Rattle.std.specs.Prelude.{◌≡◌, ℕ, ◌<◌, bytes_eq, ◌&&◌, Bool, true, false, List, [], ◌∷◌, length, map, slice_index_or, Option, Some, None, if◌then◌else◌}
use Rattle.std.specs.Option.{option_map}
use Rattle.jb_disk.specs.Memory.{Recording, memory_device}
use Rattle.jb_host.specs.declared.asking.Asking.{Asking}
use Rattle.jb_host.specs.declared.asking.Call.{Call}
use Rattle.jb_host.specs.declared.asking.Call.TheVariants as call
use Rattle.jb_host.specs.declared.memory_host.MemHost.{MemHost}
use Rattle.jb_host.specs.declared.page.Page.{Page}
use Rattle.jb_host.specs.declared.shelf.Shelf.{Shelf}
use Rattle.jb_host.specs.Desk.{Desk, Disks, HostCall, Pages, DiskPlace, asked_bell, asked_disk, asked_door, asked_settings, handed_out, has_disk, no_bell, no_disk}
use Rattle.jb_host.specs.Entrances.{bell_in, by_node, doors_in, waiting_in}
use Rattle.jb_host.specs.Memory.{memory_wire}
use Rattle.jb_host.specs.Wire.{Wire}

-- the shelf has this folder and name
abbrev pub is_for : List ℕ → List ℕ → Shelf → Bool
is_for dir name shelf = bytes_eq dir shelf.dir && bytes_eq name shelf.name

-- what stands on a shelf
abbrev pub stands_on : Option Recording → DiskPlace
stands_on None = handed_out
stands_on (Some disk) = has_disk (memory_device disk)

-- what the shelves hold, by folder and name: the first shelf with them tells
abbrev pub shelved : List Shelf → Disks
shelved [] dir name = no_disk
shelved (shelf ∷ shelves) dir name = if is_for dir name shelf then stands_on shelf.disk else shelved shelves dir name

-- the place of the first shelf with this folder and name, or none has them
abbrev pub IsShelfAt : List Shelf → List ℕ → List ℕ → Option ℕ → Type 0
IsShelfAt shelves dir name None = (k : ℕ) (d : Shelf) → k < length shelves → is_for dir name (slice_index_or shelves k d) ≡ false
IsShelfAt shelves dir name (Some k) =
    (k < length shelves) × ((d : Shelf) → is_for dir name (slice_index_or shelves k d) ≡ true)
    × ((j : ℕ) (d : Shelf) → j < k → is_for dir name (slice_index_or shelves j d) ≡ false)

-- what the pages hold, by path: the first page with it tells
abbrev pub pages_written : List Page → Pages
pages_written [] path = None
pages_written (page ∷ pages) path = if bytes_eq path page.path then Some page.bytes else pages_written pages path

-- what a call asked for
abbrev pub asked_by : Call → HostCall
asked_by (call.Disk dir name) = asked_disk dir name
asked_by (call.Settings path) = asked_settings path
asked_by (call.Door node port calls) = asked_door node port calls
asked_by (call.Bell areas minutes calls) = asked_bell areas minutes calls

-- what a host was asked for
abbrev pub asked_of : Asking → List HostCall
asked_of asking = map asked_by asking.calls.items

-- the disks of a host in memory
abbrev pub standing : MemHost → Disks
standing host = shelved host.shelves.items

-- its settings files
abbrev pub written_in : MemHost → Pages
written_in host = pages_written host.pages.items

-- a host in memory, which tells all
abbrev pub memory_desk : MemHost → Desk
memory_desk host = record {
  faults = host.asking.faults;
  failed = host.failed;
  calls = Some (asked_of host.asking);
  disks = Some (standing host);
  settings = Some (written_in host);
  console = option_map memory_wire host.console;
  readings = Some host.readings.items;
  waiting = Some (waiting_in host.entrances);
  doors = Some (doors_in host.entrances);
  bell = Some (bell_in host.belfry);
}

-- a host with this console, no disk, no settings, no door, no bell and no call, whose clocks give these readings
abbrev pub empty_desk : Wire → List ℕ → Desk
empty_desk console readings = record {
  faults = 0;
  failed = 0;
  calls = Some [];
  disks = Some (shelved []);
  settings = Some (pages_written []);
  console = Some console;
  readings = Some readings;
  waiting = Some [];
  doors = Some (by_node []);
  bell = Some no_bell;
}
