-- What a front knows.
use Rattle.std.specs.Prelude.{List}
use Rattle.logbook.specs.Pages.{Book}
use Rattle.jb_publish.specs.declared.front.Front.{Front}

module _ {E : Type 0} where
  -- the beginning of the published list that is known
  abbrev pub known_list : Front E → List E
  known_list front = front.seen.log

  -- the book of the pair that it is of
  abbrev pub book_of : Front E → Book
  book_of front = front.seen.book
