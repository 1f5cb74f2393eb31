use Rattle.std.proofs.Common.{refl}
use Rattle.jb_menu.specs.CommandLines.{command_of}
use Rattle.jb_menu.proofs.command_line.command_of.Goals as goal

pub returns : goal.returns
unfolding command_of
returns c = rw (c.parsed.ensures, c.without_last_spaces.ensures, c.without_first_spaces.ensures) refl
