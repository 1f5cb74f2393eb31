-- Which names a wildmat takes (RFC 3977 section 4).
use Rattle.std.specs.Prelude.{ℕ, ◌==◌, ◌||◌, ◌&&◌, Bool, true, false, not, List, [], ◌∷◌, Option, Some, None, unwrap_or, if◌then◌else◌}
use Rattle.std.specs.List.{slice_split}
use Rattle.std.specs.Option.{option_or}

-- there is no byte
abbrev pub is_nothing : List ℕ → Bool
is_nothing [] = true
is_nothing (byte ∷ rest) = false

-- some end of a name passes
abbrev pub some_end : (List ℕ → Bool) → List ℕ → Bool
some_end test [] = test []
some_end test (byte ∷ rest) = test (byte ∷ rest) || some_end test rest

-- `?` takes each byte, and another sign its own
abbrev pub sign_takes : ℕ → ℕ → Bool
sign_takes sign byte = (sign == 63) || (sign == byte)

-- the sign takes the first byte, and the rest passes
abbrev pub rest_passes : ℕ → (List ℕ → Bool) → List ℕ → Bool
rest_passes sign test [] = false
rest_passes sign test (byte ∷ rest) = sign_takes sign byte && test rest

-- a pattern takes a name: `*` any bytes at its front, or none
abbrev pub pattern_takes : List ℕ → List ℕ → Bool
pattern_takes [] name = is_nothing name
pattern_takes (sign ∷ signs) name = if sign == 42 then some_end (pattern_takes signs) name else rest_passes sign (pattern_takes signs) name

-- a `!` stands before the pattern
abbrev pub is_negated : List ℕ → Bool
is_negated [] = false
is_negated (byte ∷ rest) = byte == 33

-- the pattern without a `!` before it
abbrev pub pattern_of : List ℕ → List ℕ
pattern_of [] = []
pattern_of (byte ∷ rest) = if byte == 33 then rest else byte ∷ rest

-- what one pattern says of a name, if it takes it
abbrev pub word_of : List ℕ → List ℕ → Option Bool
word_of item name = if pattern_takes (pattern_of item) name then Some (not (is_negated item)) else None

-- what patterns say of a name: the last that takes it decides
abbrev pub last_word : List (List ℕ) → List ℕ → Option Bool
last_word [] name = None
last_word (item ∷ later) name = option_or (last_word later name) (word_of item name)

-- a wildmat takes a name: patterns with commas between them
unfoldable pub takes : List ℕ → List ℕ → Bool
takes wildmat name = unwrap_or (last_word (slice_split (λ byte. byte == 44) wildmat) name) false
