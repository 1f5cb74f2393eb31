-- Whole lists of keys: the lines that end in them, with their places.
use Rattle.std.specs.Prelude.{◌≡◌, ℕ, Bool, false, List, [], ◌∷◌, ◌++◌, length, Option, Some, None}
use Rattle.std.specs.List.{fold}
use Rattle.jb_line.specs.declared.key.Key.{Key}
use Rattle.jb_line.specs.Keys.{meaning_of}
use Rattle.jb_line.specs.Typing.{Typing, text_by, is_return, line_of}

-- the line that these keys leave, as each key of them changes it
abbrev pub line_text : List Key → List ℕ
line_text keys = fold (λ text key. text_by text (meaning_of key)) [] keys

-- the last of these keys is a return
abbrev pub ends_in_return : List Key → Bool
ends_in_return keys = fold (λ before key. is_return (meaning_of key)) false keys

-- the state behind these keys, by the whole list
abbrev pub typing_of : Bool → List Key → Typing
typing_of masked keys = record { text = line_text keys; after_return = ends_in_return keys; masked = masked }

-- a line, and the place of the key that ends it
pub record Placed : Type 0 where
  pub place : ℕ
  pub line : List ℕ

-- the line that ends at a place, where one does
abbrev pub placed : ℕ → Option (List ℕ) → List Placed
placed place None = []
placed place (Some line) = record { place = place; line = line } ∷ []

-- the lines that end in the keys behind these: at each place, by all keys before it
abbrev pub lines_behind : List Key → List Key → List Placed
lines_behind before [] = []
lines_behind before (key ∷ keys) = placed (length before) (line_of (typing_of false before) key) ++ lines_behind (before ++ key ∷ []) keys

-- the lines that end in these keys
abbrev pub typed_lines : List Key → List Placed
typed_lines keys = lines_behind [] keys

-- these keys have led to this state, and the lines that ended in them are these
pub record HasTyped (typing : Typing) (keys : List Key) (lines : List Placed) : Type 0 where
  pub reached : typing ≡ typing_of typing.masked keys
  pub ended : lines ≡ typed_lines keys
