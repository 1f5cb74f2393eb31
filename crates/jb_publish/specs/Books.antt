-- The rule of the book whose log is the published list, and what its one step tells.
use Rattle.std.specs.Prelude.{ℕ, ◌≡◌, ◌==◌, true, List, [], ◌∷◌, length, MatchBool}
use Rattle.logbook.specs.Pages.{Cell, Step, View, Book, Named}

-- the word of the book whose value is the length of the list
abbrev pub length_word : Book → Named
length_word b = record { tracked = true; key = 0; book = b }

module _ {E : Type 0} where
  -- the first word is the length of the list; a book has two words, of which this one leaves the second at 0
  abbrev pub TellsLength : List Cell → List E → Type 0
  TellsLength cells log = cells ≡ (length log, true) ∷ (0, true) ∷ []

  -- where the word was the one expected, the list is now this one
  abbrev pub Grows : List E → Step E → View E ℕ → ℕ → View E ℕ → Type 0
  Grows items s v found w = MatchBool (found == s.old) (w.0 ≡ items) (Unit {0})

  -- what the word says is the length of the list
  abbrev pub TellsCount : Step E → View E ℕ → ℕ → View E ℕ → Type 0
  TellsCount s v found w = found ≡ length w.0
