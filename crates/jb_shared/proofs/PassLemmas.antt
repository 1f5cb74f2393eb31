-- The mark of a pass, from the book of its area and the opening that it knows.
use Rattle.std.proofs.Common.{◌≡◌, Option, Some, None, refl}
use Rattle.std.specs.Option.{option_map}
use Rattle.jb_publish.specs.Marks.{book_at, mark_with, opening_at}
use Rattle.jb_publish.specs.declared.known.PairMark.{PairMark}
use Rattle.jb_shared.specs.declared.opening.Opening.{Opening}

-- a mark is what its book and its opening make
pub mark_again : (mark : Option (PairMark Opening)) → option_map (mark_with (book_at mark)) (opening_at mark) ≡ mark
mark_again None = refl
mark_again (Some mark) = refl
