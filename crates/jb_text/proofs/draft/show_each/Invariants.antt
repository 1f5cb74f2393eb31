use Rattle.std.proofs.Common.{◌≡◌, ◌++◌, drop, map, take}
use Rattle.jb_text.specs.Shown.{shown_byte}
use Rattle.jb_text.proofs.draft.show_each.Given as goal

abbrev pub invariant-loop-byte : goal.invariant-loop-byte
invariant-loop-byte l = l.bytes ≡ map shown_byte (take l.byte-index l.initial.bytes) ++ drop l.byte-index l.initial.bytes
