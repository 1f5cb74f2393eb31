use Rattle.std.proofs.Common.{◌≡◌, map, take}
use Rattle.jb_news.specs.Charsets.{quoted_byte}
use Rattle.jb_news.proofs.charset.quoted.Given as goal

abbrev pub invariant-loop-byte : goal.invariant-loop-byte
invariant-loop-byte l = l.bytes ≡ map quoted_byte (take l.byte-index l.name)
