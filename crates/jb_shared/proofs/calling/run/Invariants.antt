use Rattle.std.proofs.Common.{Some}
use Rattle.jb_area.specs.Area.{device_of}
use Rattle.jb_turn.specs.Seats.{row_of}
use Rattle.jb_shared.specs.Noting.{entry_of}
use Rattle.jb_shared.proofs.calling.run.Given as goal

abbrev pub ghosts-note : goal.ghosts-note
ghosts-note g a = record { entry = Some (entry_of (row_of a.seat.now) (device_of g.D.Disk.device a.held.now.state.area).faults a.what) }
