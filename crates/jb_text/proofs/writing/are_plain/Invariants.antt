use Rattle.std.proofs.Common.{◌≡◌, false, map, take}
use Rattle.jb_text.specs.Shown.{shown_byte}
use Rattle.jb_text.proofs.writing.are_plain.Given as goal

abbrev pub invariant-loop-byte : goal.invariant-loop-byte
invariant-loop-byte l = l.any ≡ false → map shown_byte (take l.byte-index l.bytes) ≡ take l.byte-index l.bytes
