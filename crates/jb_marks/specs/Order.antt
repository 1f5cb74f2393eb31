-- The index of a list of marks.
use Rattle.std.specs.Prelude.{◌≡◌, ℕ, ◌+◌, ◌*◌, ◌^◌, ◌<◌, ◌≤◌, List, length, slice_get, slice_index_or, All, Contains, Option, None, Some, Result, Ok, Err}
use Rattle.std.specs.List.Sorted.{IsNonDecreasingBy}
use Rattle.jb_state.specs.declared.mark.Mark.{Mark}
use Rattle.jb_state.specs.Places.{HasNone, IsFirstOf}

-- the pairs in their order, as numbers
abbrev pub pair_number : ℕ → ℕ → ℕ
pair_number user_crc user_id = user_crc * 2 ^ 32 + user_id

-- the pair of a mark, if there is one
abbrev pub pair_of : Option Mark → ℕ × ℕ
pair_of None = (0, 0)
pair_of (Some mark) = (mark.user_crc, mark.user_id)

-- the pair of the mark at a place
abbrev pub pair_in : List Mark → ℕ → ℕ × ℕ
pair_in marks place = pair_of (slice_get marks place)

-- the places in the order of their pairs, and of each pair in their own
abbrev pub place_number : List Mark → ℕ → ℕ
place_number marks place = pair_number (pair_in marks place).0 (pair_in marks place).1 * 2 ^ 32 + place

-- these are the numbers below n, each once, in whatever order
pub record AreBelow (n : ℕ) (order : List ℕ) : Type 0 where
  pub count : length order ≡ n
  pub each : All (λ place. place < n) order
  pub whole : (place : ℕ) → place < n → Contains order place

-- the places of the marks, all of them and in order
pub record IsOrdered (marks : List Mark) (order : List ℕ) : Type 0 where
  pub places : AreBelow (length marks) order
  pub rising : IsNonDecreasingBy (place_number marks) order

-- the places before this one in the index have a lower pair, the others have not
pub record IsSplit (marks : List Mark) (order : List ℕ) (pair at : ℕ) : Type 0 where
  pub within : at ≤ length order
  pub lower : (k d : ℕ) → k < at → place_number marks (slice_index_or order k d) < pair * 2 ^ 32
  pub higher : (k d : ℕ) → at ≤ k → k < length order → pair * 2 ^ 32 ≤ place_number marks (slice_index_or order k d)

-- no mark has this pair, and in the index the place of one would stand here
pub record IsGapFor (user_crc user_id : ℕ) (marks : List Mark) (order : List ℕ) (at : ℕ) : Type 0 where
  pub none : HasNone user_crc user_id marks
  pub within : at ≤ length order
  pub lower : (k d : ℕ) → k < at → place_number marks (slice_index_or order k d) < pair_number user_crc user_id * 2 ^ 32
  pub higher : (k d : ℕ) → at ≤ k → k < length order → (pair_number user_crc user_id + 1) * 2 ^ 32 ≤ place_number marks (slice_index_or order k d)

-- a search ends at the place of the first mark of this pair, or else in the index at the place of one to come
abbrev pub EndsSearch : ℕ → ℕ → List Mark → List ℕ → Result ℕ ℕ → Type 0
EndsSearch user_crc user_id marks order (Ok place) = IsFirstOf user_crc user_id marks place
EndsSearch user_crc user_id marks order (Err at) = IsGapFor user_crc user_id marks order at
