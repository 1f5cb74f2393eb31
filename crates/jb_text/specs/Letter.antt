-- A message as it is shown to its reader.
use Rattle.std.specs.Prelude.{ℕ, ◌+◌, ◌*◌, ◌/◌, max, Bool, not, ◌==◌, ℤ, List, [], ◌∷◌, ◌++◌, length, take, drop, map, filter, flat_map, codes, decimal, if◌then◌else◌}
use Rattle.std.specs.List.{range_with_len, slice_split}
use Rattle.jb_model.specs.declared.reply.Letter.{Letter}
use Rattle.jb_text.specs.Date.{date_text}
use Rattle.jb_text.specs.Lines.{line_end}
use Rattle.jb_text.specs.Shown.{shown}

-- the byte ends a line of a message (a carriage return)
abbrev pub ends_line : ℕ → Bool
ends_line byte = byte == 13

-- the byte is kept in a piece: it is no line feed
abbrev pub is_kept : ℕ → Bool
is_kept byte = not (byte == 10)

-- the list without an empty last piece
abbrev pub without_empty_end : List (List ℕ) → List (List ℕ)
without_empty_end [] = []
without_empty_end (piece ∷ []) = if length piece == 0 then [] else piece ∷ []
without_empty_end (piece ∷ next ∷ pieces) = piece ∷ without_empty_end (next ∷ pieces)

-- the pieces of a text, cut at each carriage return
abbrev pub pieces_of : List ℕ → List (List ℕ)
pieces_of text = without_empty_end (slice_split ends_line text)

-- how many lines so many bytes take, of which none has more than 79; no byte takes one
abbrev pub line_count : ℕ → ℕ
line_count bytes = max 1 ((bytes + 78) / 79)

-- the lines of a piece: 79 bytes each, and what is left
abbrev pub lines_of : List ℕ → List (List ℕ)
lines_of bytes = map (λ n. take 79 (drop (79 * n) bytes)) (range_with_len 0 (line_count (length bytes)))

-- a line with its end
abbrev pub line : List ℕ → List ℕ
line bytes = bytes ++ line_end

-- a piece as it is shown: without line feeds, in lines
abbrev pub piece_text : List ℕ → List ℕ
piece_text piece = flat_map line (lines_of (shown (filter is_kept piece)))

-- a text as it is shown
abbrev pub body_text : List ℕ → List ℕ
body_text text = flat_map piece_text (pieces_of text)

-- a line of the heading: what it tells, and its value
abbrev pub heading : List ℕ → List ℕ → List ℕ
heading label value = label ++ value ++ line_end

-- the heading: number, sender, receiver, subject and date
unfoldable pub heading_text : Letter → ℤ → List ℕ
heading_text letter offset =
    heading (codes "Message ") (decimal letter.number) ++ heading (codes "From: ") (shown letter.from)
    ++ heading (codes "To: ") (shown letter.to) ++ heading (codes "Subject: ") (shown letter.subject)
    ++ heading (codes "Date: ") (date_text letter.written offset)

-- the heading, then the text between two empty lines
abbrev pub letter_text : Letter → ℤ → List ℕ
letter_text letter offset = heading_text letter offset ++ line_end ++ body_text letter.text ++ line_end
