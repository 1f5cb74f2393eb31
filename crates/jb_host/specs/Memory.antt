-- What links, doors and bells in memory tell.
use Rattle.std.specs.Prelude.{ℕ, ◌-◌, false, List, [], map, length, drop, Some, vec_capacity, vec_len}
use Rattle.jb_host.specs.declared.memory.MemLink.{MemLink}
use Rattle.jb_host.specs.declared.memory_bell.MemBell.{MemBell}
use Rattle.jb_host.specs.declared.memory_door.MemDoor.{MemDoor}
use Rattle.jb_host.specs.Gate.{Gate}
use Rattle.jb_host.specs.Rings.{Rings}
use Rattle.jb_host.specs.Wire.{Wire}

-- a link in memory, which tells its bytes
abbrev pub memory_wire : MemLink → Wire
memory_wire link = record { faults = link.faults; ends = link.ends; unsent = link.unsent; to_come = Some (drop link.at link.input); sent = Some link.output }

-- a link on which nothing has happened yet
abbrev pub fresh_wire : List ℕ → Wire
fresh_wire input = record { faults = 0; ends = 0; unsent = 0; to_come = Some input; sent = Some [] }

-- a door in memory, which tells its links, and keeps a place for each that is to come
abbrev pub memory_gate : MemDoor → Gate
memory_gate door = record {
  faults = door.faults;
  is_shut = door.is_shut;
  left = Some (length door.links.items);
  room = vec_capacity door.hung - vec_len door.hung - vec_len door.links;
  to_come = Some (map memory_wire door.links.items);
  hung = Some (map memory_wire door.hung.items);
}

-- a door that has given no link yet
abbrev pub fresh_gate : List Wire → Gate
fresh_gate wires = record { faults = 0; is_shut = false; left = Some (length wires); room = 0; to_come = Some wires; hung = Some [] }

-- a bell in memory, which tells the areas for which it will ring
abbrev pub memory_rings : MemBell → Rings
memory_rings bell = record { is_shut = bell.is_shut; left = Some (length bell.areas.items); to_come = Some bell.areas.items }

-- a bell that has not rung yet
abbrev pub fresh_rings : List ℕ → Rings
fresh_rings areas = record { is_shut = false; left = Some (length areas); to_come = Some areas }
