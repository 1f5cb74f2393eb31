use Rattle.std.proofs.Common.{◌≡◌, ◌++◌, map, take}
use Rattle.jb_text.specs.Shown.{shown_byte}
use Rattle.jb_news.proofs.writing.append_shown.Given as goal

abbrev pub invariant-loop-byte : goal.invariant-loop-byte
invariant-loop-byte l = l.text ≡ l.initial.text ++ map shown_byte (take l.byte-index l.bytes)
