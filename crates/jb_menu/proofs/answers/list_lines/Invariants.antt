use Rattle.std.proofs.Common.{◌≡◌, flat_map, take}
use Rattle.jb_menu.specs.Answers.{listing_line}
use Rattle.jb_menu.proofs.answers.list_lines.Given as goal

abbrev pub invariant-loop-one : goal.invariant-loop-one
invariant-loop-one l = l.lines ≡ flat_map listing_line (take l.one-index l.messages)
