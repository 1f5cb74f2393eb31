use Rattle.std.proofs.Common.{◌≡◌, ◌≤◌, ◌||◌, length, map, vec_capacity}
use Rattle.std.specs.Prelude.{All}
use Rattle.jb_run.specs.All.{any}
use Rattle.jb_run.specs.Rows.{lists_of}
use Rattle.jb_host.specs.Desk.{Desk}
use Rattle.jb_run.specs.Lines.{PutsDoors}
use Rattle.jb_run.specs.Workers.{HasDoor, HaveOwn, gates_of, numbers_of, tallies_of, with_pagers, with_passes}
use Rattle.jb_run.proofs.parting.part_lines.Given as goal

-- the last workers are taken apart
abbrev pub invariant-loop-failed : goal.invariant-loop-failed
invariant-loop-failed g l = record {
  with_doors : All HasDoor l.workers.items;
  own : HaveOwn (length l.nodes.items) l.workers.items;
  doors : (new : Desk) → PutsDoors (numbers_of l.workers.items) (gates_of g.H.Door.Door.gate l.workers.items) (g.H.Host.desk l.host) new
      → PutsDoors (numbers_of l.initial.workers.items) (gates_of g.H.Door.Door.gate l.initial.workers.items) (g.H.Host.desk l.initial.host) new;
  failed : (any (map (λ tally. tally.door_failed) (tallies_of l.workers.items)) || l.has_failed) ≡ any (map (λ tally. tally.door_failed) (tallies_of l.initial.workers.items));
  pagers : with_pagers l.workers.items l.pagers.items ≡ with_pagers l.initial.workers.items l.initial.pagers.items;
  room : length (with_pagers l.workers.items l.pagers.items) ≤ vec_capacity l.pagers;
  rows : with_passes l.workers.items (lists_of l.nodes.items) ≡ with_passes l.initial.workers.items (lists_of l.initial.nodes.items);
}

abbrev pub decreases-loop-failed : goal.decreases-loop-failed
decreases-loop-failed g l = length l.workers.items
