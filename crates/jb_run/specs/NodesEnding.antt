-- The exit status of a run with many nodes.
use Rattle.std.specs.Prelude.{ℕ, Bool, true, false}
use Rattle.jb_run.specs.declared.nodes_end.NodesEnd.{NodesEnd}

-- an area in doubt goes first, then a door that failed
abbrev pub nodes_status_with : Bool → Bool → ℕ
nodes_status_with true door_failed = 4
nodes_status_with false true = 5
nodes_status_with false false = 0

-- the exit status
abbrev pub nodes_status : NodesEnd → ℕ
nodes_status end = nodes_status_with end.is_doubtful end.door_failed
