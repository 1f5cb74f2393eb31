-- Of which pair a front is.
use Rattle.std.specs.Prelude.{◌≡◌, Option}
use Rattle.jb_publish.specs.declared.front.Front.{Front}
use Rattle.jb_publish.specs.declared.known.PairMark.{PairMark}
use Rattle.jb_publish.specs.Fronts.{book_of}
use Rattle.jb_publish.specs.Marks.{book_at}

-- the front is of the pair with this mark
abbrev pub IsIn : {O E : Type 0} → Option (PairMark O) → Front E → Type 0
IsIn mark front = book_of front ≡ book_at mark
