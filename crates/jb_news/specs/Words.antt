-- The words of a line (RFC 3977 section 3.1), and parts of a text.
use Rattle.std.specs.Prelude.{ℕ, ◌+◌, ◌==◌, ◌||◌, Bool, true, false, List, [], ◌∷◌, take, drop, map, filter, bytes_eq}
use Rattle.std.specs.Char.{to_ascii_lowercase}
use Rattle.std.specs.List.{position_or_len, slice_split}

-- the byte is a space or a tab
abbrev pub is_blank : ℕ → Bool
is_blank byte = (byte == 32) || (byte == 9)

-- where the first blank is, or behind all
abbrev pub word_end : List ℕ → ℕ
word_end text = position_or_len is_blank text

-- there is a byte
abbrev pub has_some : List ℕ → Bool
has_some [] = false
has_some (byte ∷ rest) = true

-- the words of a text: what stands between blanks, but for nothing
unfoldable pub words_of : List ℕ → List (List ℕ)
words_of text = filter has_some (slice_split is_blank text)

-- the word is this one, in either case
abbrev pub says : List ℕ → List ℕ → Bool
says name word = bytes_eq (map to_ascii_lowercase word) (map to_ascii_lowercase name)

-- where the first of these bytes is, or behind all
abbrev pub place_of : ℕ → List ℕ → ℕ
place_of byte text = position_or_len (λ other. other == byte) text

-- what stands before the first of these bytes, and all where there is none
abbrev pub front_of : ℕ → List ℕ → List ℕ
front_of byte text = take (place_of byte text) text

-- what stands behind the first of these bytes
abbrev pub behind_of : ℕ → List ℕ → List ℕ
behind_of byte text = drop (place_of byte text + 1) text

-- the text ends with this byte
abbrev pub ends_with : ℕ → List ℕ → Bool
ends_with byte [] = false
ends_with byte (last ∷ []) = last == byte
ends_with byte (first ∷ next ∷ rest) = ends_with byte (next ∷ rest)
