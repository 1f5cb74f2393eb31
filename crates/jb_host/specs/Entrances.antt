-- The doors and the bell of a host in memory.
use Rattle.std.specs.Prelude.{◌≡◌, ◌≢◌, ◌==◌, ℕ, ◌<◌, List, [], ◌∷◌, length, map, slice_index_or, Option, Some, None, if◌then◌else◌}
use Rattle.jb_host.specs.declared.belfry.Belfry.{Belfry as Tower}
use Rattle.jb_host.specs.declared.belfry.Belfry.TheVariants as tower
use Rattle.jb_host.specs.declared.entrances.Entrances.{Entrances}
use Rattle.jb_host.specs.declared.handed_out.HandedOut.{HandedOut}
use Rattle.jb_host.specs.declared.memory_door.MemDoor.{MemDoor}
use Rattle.jb_host.specs.Desk.{Belfry, Doors, Entrance, bell_out, door_out, has_bell, has_door, no_bell, no_door}
use Rattle.jb_host.specs.Gate.{Gate}
use Rattle.jb_host.specs.Memory.{memory_gate, memory_rings}

-- what became of a door that was handed out
abbrev pub came_back : Option MemDoor → Entrance
came_back None = door_out
came_back (Some door) = has_door (memory_gate door)

-- the doors that were handed out, by node: the one handed out last tells, which stands first
abbrev pub by_node : List HandedOut → Doors
by_node [] node = no_door
by_node (entry ∷ entries) node = if node == entry.node then came_back entry.door else by_node entries node

-- the place of the first entry with this node, or none has it
abbrev pub IsOfNode : List HandedOut → ℕ → Option ℕ → Type 0
IsOfNode entries node None = (k : ℕ) (d : HandedOut) → k < length entries → node ≢ (slice_index_or entries k d).node
IsOfNode entries node (Some k) =
    (k < length entries) × ((d : HandedOut) → node ≡ (slice_index_or entries k d).node)
    × ((j : ℕ) (d : HandedOut) → j < k → node ≢ (slice_index_or entries j d).node)

-- the doors that wait to be handed out
abbrev pub waiting_in : Entrances → List Gate
waiting_in entrances = map memory_gate entrances.waiting.items

-- those that were handed out
abbrev pub doors_in : Entrances → Doors
doors_in entrances = by_node entrances.handed.items

-- the bell of a host
abbrev pub bell_in : Tower → Belfry
bell_in tower.Empty = no_bell
bell_in tower.Out = bell_out
bell_in (tower.Holds bell) = has_bell (memory_rings bell)
