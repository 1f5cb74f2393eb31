use Rattle.std.proofs.Common.{◌≡◌, ◌≤◌, ◌-◌, List, None, length, map, take, vec_capacity}
use Rattle.jb_disk.specs.Device.{Device}
use Rattle.jb_run.specs.Backed.{ShowTargets}
use Rattle.jb_run.specs.Desks.{HandsOut}
use Rattle.jb_run.proofs.TargetPlaces.{all_targets}
use Rattle.jb_run.proofs.targets.hand_targets.Given as goal

-- the first are handed out
abbrev pub invariant-loop-host : goal.invariant-loop-host
invariant-loop-host g l = record {
  few : length l.targets.disks.items ≤ length l.areas;
  disk_room : length l.areas ≤ vec_capacity l.targets.disks;
  backup_room : length l.areas ≤ vec_capacity l.targets.backups;
  untried : l.targets.backups.items ≡ map (λ _. None) l.targets.disks.items;
  out : (devices : List Device) × ShowTargets g.H.Disk.Disk.device l.targets.disks.items devices
      × HandsOut (take (length l.targets.disks.items) (all_targets l.dir l.areas)) devices (g.H.Host.desk l.initial.host) (g.H.Host.desk l.host);
}

abbrev pub decreases-loop-host : goal.decreases-loop-host
decreases-loop-host g l = length l.areas - length l.targets.disks.items
