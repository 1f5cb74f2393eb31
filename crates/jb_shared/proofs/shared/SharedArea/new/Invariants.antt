use Rattle.std.proofs.Common.{Some}
use Rattle.jb_shared.specs.Standing.{opening_of}
use Rattle.jb_shared.proofs.shared.SharedArea.new.Given as goal

abbrev pub ghosts-ends : goal.ghosts-ends
ghosts-ends g a = record { opening = Some (opening_of g.D.Disk.device a.area.now) }
