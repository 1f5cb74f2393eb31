use Rattle.jb_board.proofs.Completing.{fails_by_faults, serves_what_is_there}
use Rattle.jb_board.proofs.laws.runs_are_complete.Goals as goal

pub returns-clause-faults : goal.returns-clause-faults
returns-clause-faults g c = fails_by_faults g.H.Host.door_for g.H.Host.bell_over

pub returns-clause-served : goal.returns-clause-served
returns-clause-served g c =
    serves_what_is_there c.open_boards_are_served.ensures c.tools_are_complete.ensures.served c.tools_are_complete.ensures.made c.tools_are_complete.ensures.backed g.H.Host.door_for g.H.Host.bell_over
