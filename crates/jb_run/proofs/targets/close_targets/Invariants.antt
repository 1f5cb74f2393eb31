use Rattle.std.proofs.Common.{◌≤◌, ◌++◌, List, drop, length, take}
use Rattle.std.specs.Prelude.{All, IsSome}
use Rattle.jb_disk.specs.Device.{Device}
use Rattle.jb_run.specs.Backed.{ShowTargets}
use Rattle.jb_run.specs.Desks.{PutsBack}
use Rattle.jb_run.proofs.TargetLemmas.{devices_of}
use Rattle.jb_run.proofs.TargetPlaces.{all_targets}
use Rattle.jb_run.proofs.targets.close_targets.Given as goal

-- those from some place on are back
abbrev pub invariant-loop-dir : goal.invariant-loop-dir
invariant-loop-dir g l = record {
  there : All IsSome l.disks.items;
  few : length l.disks.items ≤ length l.initial.disks.items;
  behind : (behind : List Device) × ShowTargets g.H.Disk.Disk.device l.initial.disks.items (devices_of g.H.Disk.Disk.device l.disks.items ++ behind)
      × PutsBack (drop (length l.disks.items) (take (length l.initial.disks.items) (all_targets l.dir l.areas))) behind (g.H.Host.desk l.initial.host) (g.H.Host.desk l.host);
}

abbrev pub decreases-loop-dir : goal.decreases-loop-dir
decreases-loop-dir g l = length l.disks.items
