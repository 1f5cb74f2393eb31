-- The disks of a list of bases, as a host hands them out and takes them back.
use Rattle.std.specs.Prelude.{◌≡◌, ℕ, ◌<◌, List, [], ◌∷◌, ◌++◌, length, map, slice_index_or}
use Rattle.std.specs.List.{sum_by}
use Rattle.std.specs.Option.{ForSome, option_map}
use Rattle.jb_conf.specs.declared.board.BoardArea.{BoardArea}
use Rattle.jb_disk.specs.Device.{Device}
use Rattle.jb_host.specs.Desk.{CountsFailed, Desk, Disks, HostCall, KeepsRest, asked_disk, handed_out, has_disk, with_place}

-- where a base is looked for: in this folder, under this name
pub record BasePlace : Type 0 where
  pub dir : List ℕ
  pub base : List ℕ

-- where the base of an area is
abbrev pub place_of : BoardArea → BasePlace
place_of area = record { dir = area.dir; base = area.base }

-- where those of areas are
abbrev pub places_of : List BoardArea → List BasePlace
places_of areas = map place_of areas

-- the calls for the disks at these places, in order
abbrev pub asked_for : List BasePlace → List HostCall
asked_for places = map (λ place. asked_disk place.dir place.base) places

-- disks stand at these places, and are these
abbrev pub Stand : List BasePlace → List Device → Disks → Type 0
Stand places devices disks = (k : ℕ) (place : BasePlace) (device : Device) → k < length places
    → disks (slice_index_or places k place).dir (slice_index_or places k place).base ≡ has_disk (slice_index_or devices k device)

-- the disks at these places are out
abbrev pub DisksAreOut : List BasePlace → Disks → Type 0
DisksAreOut places disks = (k : ℕ) (place : BasePlace) → k < length places → disks (slice_index_or places k place).dir (slice_index_or places k place).base ≡ handed_out

-- the same disks, with those at these places out
abbrev pub with_places_out : List BasePlace → Disks → Disks
with_places_out [] disks = disks
with_places_out (place ∷ places) disks = with_places_out places (with_place place.dir place.base handed_out disks)

-- the same disks, with these at these places
abbrev pub with_each : List BasePlace → List Device → Disks → Disks
with_each [] devices disks = disks
with_each (place ∷ places) [] disks = disks
with_each (place ∷ places) (device ∷ devices) disks = with_each places devices (with_place place.dir place.base (has_disk device) disks)

-- the disks at these places were asked for in order and handed out; they were these; nothing else of the host has changed
pub record HandsOut (places : List BasePlace) (devices : List Device) (old new : Desk) : Type 0 where
  pub count : length devices ≡ length places
  pub were : ForSome old.disks (Stand places devices)
  pub disks : new.disks ≡ option_map (with_places_out places) old.disks
  pub calls : new.calls ≡ option_map (λ earlier. earlier ++ asked_for places) old.calls
  pub rest : KeepsRest old new

-- how often these disks have failed, taken together
abbrev pub disk_faults : List Device → ℕ
disk_faults devices = sum_by (λ device. device.faults) devices

-- these disks were put back at these places, and counted where one has failed; nothing else of the host has changed
pub record PutsBack (places : List BasePlace) (devices : List Device) (old new : Desk) : Type 0 where
  pub count : length devices ≡ length places
  pub disks : ForSome old.disks (λ disks. DisksAreOut places disks → new.disks ≡ option_map (with_each places devices) old.disks)
  pub calls : new.calls ≡ old.calls
  pub failed : CountsFailed (disk_faults devices) old.failed new.failed
  pub rest : KeepsRest old (record new { failed = old.failed })
