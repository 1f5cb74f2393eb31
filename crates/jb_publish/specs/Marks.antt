-- Which pair an end is of, what it knows at the table of the two copies, and from what its list goes on.
use Rattle.std.specs.Prelude.{ℕ, List, [], Option, Some, None}
use Rattle.logbook.specs.Pages.{Book}
use Rattle.jb_publish.specs.declared.known.PairMark.{PairMark}
use Rattle.jb_publish.specs.declared.known.Known.{Known}

module _ {O : Type 0} where
  -- the mark of the pair with this book and this opening
  abbrev pub mark_with : Book → O → PairMark O
  mark_with book opening = record { number = book.number; log_name = book.log_name; cells_name = book.cells_name; opening = opening }

  -- the book of the pair, or one with no name where none is known
  abbrev pub book_at : Option (PairMark O) → Book
  book_at None = record { number = 0; log_name = 0; cells_name = 0 }
  book_at (Some mark) = record { number = mark.number; log_name = mark.log_name; cells_name = mark.cells_name }

  -- the opening of what the pair publishes, where it is known
  abbrev pub opening_at : Option (PairMark O) → Option O
  opening_at None = None
  opening_at (Some mark) = Some mark.opening

  -- of this pair, with so many entries shown by each look
  abbrev pub known : Option (PairMark O) → List ℕ → Known O
  known mark looks = record { mark = mark; looks = looks }

  -- what an end knows at first
  abbrev pub blank : Known O
  blank = known None []

  -- what is told of a pair
  abbrev pub note_of : Known O → Known O
  note_of v = known v.mark []

  -- what an end knows once it was told
  abbrev pub informed : Known O → Known O → Known O
  informed v note = known note.mark v.looks

-- an opening is known, and from it the value stands for the list
abbrev pub ValueStandsFrom : {T O E : Type 0} → (T → O → List E → Type 0) → Option O → T → List E → Type 0
ValueStandsFrom stands None value list = ⊥
ValueStandsFrom stands (Some opening) value list = stands value opening list
