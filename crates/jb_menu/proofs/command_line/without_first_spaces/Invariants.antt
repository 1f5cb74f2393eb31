use Rattle.std.proofs.Common.{◌≡◌, length}
use Rattle.jb_menu.specs.CommandLines.{without_first_spaces}
use Rattle.jb_menu.proofs.command_line.without_first_spaces.Given as goal

abbrev pub invariant-loop-rest : goal.invariant-loop-rest
invariant-loop-rest l = without_first_spaces l.rest ≡ without_first_spaces l.initial.rest

abbrev pub decreases-loop-rest : goal.decreases-loop-rest
decreases-loop-rest l = length l.rest
