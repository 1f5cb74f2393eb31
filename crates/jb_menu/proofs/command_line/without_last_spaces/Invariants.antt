use Rattle.std.proofs.Common.{◌≡◌, length}
use Rattle.jb_menu.specs.CommandLines.{without_last_spaces}
use Rattle.jb_menu.proofs.command_line.without_last_spaces.Given as goal

abbrev pub invariant-loop-last : goal.invariant-loop-last
invariant-loop-last l = without_last_spaces l.rest ≡ without_last_spaces l.initial.rest

abbrev pub decreases-loop-last : goal.decreases-loop-last
decreases-loop-last l = length l.rest
