-- A list in pieces: which elements a row of pieces has, and how many stand in each.
use Rattle.std.specs.Prelude.{◌≡◌, ◌≢◌, ℕ, ◌+◌, ◌-◌, ◌*◌, ◌<◌, ◌≤◌, List, length, min, slice_index_or}
use Rattle.std.specs.List.{AllZip, flat_map}
use Rattle.std.specs.VecDeque.{deque_len, deque_capacity}
use Rattle.std.specs.declared.collections.VecDeque.{VecDeque}

module _ {X Z : Type 0} where
  -- the elements of all pieces, one piece behind the other
  abbrev pub items_of : List (VecDeque X Z) → List X
  items_of pieces = flat_map (λ piece. piece.items) pieces

  -- how many elements a piece has
  abbrev pub len_at : List (VecDeque X Z) → ℕ → VecDeque X Z → ℕ
  len_at pieces k d = deque_len (slice_index_or pieces k d)

  -- each piece has room for 512 elements
  abbrev pub HavePlaces : List (VecDeque X Z) → Type 0
  HavePlaces pieces = (k : ℕ) (d : VecDeque X Z) → k < length pieces → 512 ≤ deque_capacity (slice_index_or pieces k d)

  -- so many elements stand in the pieces, and none of these has a place that is free before an element in a later one
  pub record AreFilled (count : ℕ) (pieces : List (VecDeque X Z)) : Type 0 where
    pub places : HavePlaces pieces
    pub lens : (k : ℕ) (d : VecDeque X Z) → k < length pieces → len_at pieces k d ≡ min 512 (count - k * 512)

  -- the same, but that one piece has one element less
  pub record HaveGap (count gap : ℕ) (pieces : List (VecDeque X Z)) : Type 0 where
    pub places : HavePlaces pieces
    pub lens : (k : ℕ) (d : VecDeque X Z) → k < length pieces → k ≢ gap → len_at pieces k d ≡ min 512 (count - k * 512)
    pub short : (d : VecDeque X Z) → len_at pieces gap d + 1 ≡ min 512 (count - gap * 512)

  -- a piece has the elements of another, and room for 512
  pub record IsCopy (old new : VecDeque X Z) : Type 0 where
    pub items : new.items ≡ old.items
    pub len : deque_len new ≡ deque_len old
    pub places : 512 ≤ deque_capacity new

  -- each piece has the elements of the one at its place
  abbrev pub AreCopies : List (VecDeque X Z) → List (VecDeque X Z) → Type 0
  AreCopies old new = AllZip IsCopy old new
