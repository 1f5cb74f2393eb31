-- The body of an article (RFC 3977 section 3.1.1).
use Rattle.std.specs.Prelude.{ℕ, ◌==◌, List, [], ◌∷◌, filter, flat_map, if◌then◌else◌}
use Rattle.jb_text.specs.Letter.{is_kept, line, pieces_of}
use Rattle.jb_text.specs.Shown.{shown}

-- a line with one stop more where it begins with one
abbrev pub stuffed : List ℕ → List ℕ
stuffed [] = []
stuffed (first ∷ rest) = if first == 46 then 46 ∷ first ∷ rest else first ∷ rest

-- a piece of a message as a line: without line feeds, as it is shown
abbrev pub body_line : List ℕ → List ℕ
body_line piece = line (stuffed (shown (filter is_kept piece)))

-- the lines of a message, which is cut at each carriage return
abbrev pub body_text : List ℕ → List ℕ
body_text message = flat_map body_line (pieces_of message)
