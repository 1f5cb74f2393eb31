-- What real links, doors, bells and hosts tell: their counts and the areas of a bell that has an end, and nothing of bytes, links, calls, disks,
-- settings and readings.
use Rattle.std.specs.Prelude.{ℕ, zero, suc, ◌+◌, nat_lt, ◌==◌, ◌||◌, Bool, false, List, [], ◌∷◌, Option, None, Some, if◌then◌else◌}
use Rattle.std.specs.Option.{option_map}
use Rattle.jb_host.specs.Desk.{Desk}
use Rattle.jb_host.specs.Gate.{Gate}
use Rattle.jb_host.specs.Rings.{Rings}
use Rattle.jb_host.specs.Wire.{Wire}

-- a link that tells no bytes
abbrev pub silent_wire : ℕ → ℕ → ℕ → Wire
silent_wire faults ends unsent = record { faults = faults; ends = ends; unsent = unsent; to_come = None; sent = None }

-- a door that tells no links
abbrev pub silent_gate : ℕ → Bool → Option ℕ → Gate
silent_gate faults is_shut left = record { faults = faults; is_shut = is_shut; left = left; room = 1; to_come = None; hung = None }

-- the area behind one, and the first behind the last
abbrev pub next_in_turn : ℕ → ℕ → ℕ
next_in_turn areas last = if nat_lt last areas then last + 1 else 1

-- the next areas in turn, so many, behind the last that was rung for
abbrev pub in_turn : ℕ → ℕ → ℕ → List ℕ
in_turn areas last zero = []
in_turn areas last (suc count) = next_in_turn areas last ∷ in_turn areas (next_in_turn areas last) count

-- a bell over so many areas that has rung last for this one, 0 where for none: it tells the areas to come where they have an end
abbrev pub timed_rings : ℕ → ℕ → Bool → Option ℕ → Rings
timed_rings areas last is_shut left = record { is_shut = is_shut; left = left; to_come = option_map (in_turn areas last) left }

-- how often a bell over so many areas rings: never with 0 minutes, for each area once where calls are counted, else for ever
abbrev pub rings_in : ℕ → ℕ → Option ℕ → Option ℕ
rings_in areas minutes None = if (minutes == 0) || (areas == 0) then Some 0 else None
rings_in areas minutes (Some calls) = if minutes == 0 then Some 0 else Some areas

-- a bell over so many areas that has not rung yet
abbrev pub first_rings : ℕ → ℕ → Option ℕ → Rings
first_rings areas minutes most = timed_rings areas 0 false (rings_in areas minutes most)

-- a host that tells no calls, no disks, no settings, no readings, no doors and no bell
abbrev pub silent_desk : ℕ → ℕ → Option Wire → Desk
silent_desk faults failed console = record {
  faults = faults;
  failed = failed;
  calls = None;
  disks = None;
  settings = None;
  console = console;
  readings = None;
  waiting = None;
  doors = None;
  bell = None;
}
