use Rattle.std.proofs.Common.{length, ap}
use Rattle.jb_run.proofs.WholeLemmas.{whole_none}
use Rattle.jb_run.proofs.opening.with_room.Goals as goal

-- no area is there yet
pub returns-clause-none : goal.returns-clause-none
returns-clause-none g c =
    whole_none (record { areas = c.in_ok-areas.areas; nodes = c.in_ok-nodes.nodes; rooms = c.in_ok-rooms.rooms; live = c.in_ok-live.live }) c.args.nodes c.args.count
    (ap length c.in_ok-areas.ensures.items) (ap length c.in_ok-rooms.ensures.items) c.in_ok-nodes.ensures
