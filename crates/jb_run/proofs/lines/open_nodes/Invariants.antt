use Rattle.std.proofs.Common.{◌≡◌, ◌+◌, ◌≤◌, ◌-◌, length, vec_capacity}
use Rattle.jb_run.specs.Lines.{first_lines}
use Rattle.jb_run.specs.Rows.{lists_of}
use Rattle.jb_run.specs.Workers.{HasWorkers, with_pagers, with_passes}
use Rattle.jb_run.proofs.lines.open_nodes.Given as goal

-- the lines of the first nodes are open, and these have their passes and pagers
abbrev pub invariant-loop-alloc : goal.invariant-loop-alloc
invariant-loop-alloc g l = record {
  has : HasWorkers g.H.Door.Door.gate g.H.Clock.Clock.readings g.H.Host.door_for l.calls (first_lines l.board l.calls (length l.workers.items)) l.workers.items
      (g.H.Host.desk l.initial.host) (g.H.Host.desk l.host);
  rows : with_passes l.workers.items (lists_of l.nodes.items) ≡ lists_of l.initial.nodes.items;
  pagers : with_pagers l.workers.items l.pagers.items ≡ l.initial.pagers.items;
  waiting : length l.pagers.items + length l.workers.items ≡ l.board.nodes;
  pager_room : vec_capacity l.pagers ≡ vec_capacity l.initial.pagers;
  lists : length l.nodes.items ≡ length l.initial.nodes.items;
  room : vec_capacity l.workers ≡ vec_capacity l.initial.workers;
  most : length l.workers.items ≤ l.board.nodes;
}

abbrev pub decreases-loop-alloc : goal.decreases-loop-alloc
decreases-loop-alloc g l = l.board.nodes - length l.workers.items
