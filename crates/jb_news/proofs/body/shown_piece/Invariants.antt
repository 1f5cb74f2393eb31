use Rattle.std.proofs.Common.{◌≡◌, filter, take}
use Rattle.jb_text.specs.Letter.{is_kept}
use Rattle.jb_text.specs.Shown.{shown}
use Rattle.jb_news.proofs.body.shown_piece.Given as goal

abbrev pub invariant-loop-byte : goal.invariant-loop-byte
invariant-loop-byte l = l.bytes ≡ shown (filter is_kept (take l.byte-index l.piece))
