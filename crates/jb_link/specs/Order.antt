-- Lists in rising order of keys, and where in one a key would stand.
use Rattle.std.specs.Prelude.{◌≡◌, ℕ, ◌<◌, ◌≤◌, false, List, length, slice_index_or, AllPairs}
use Rattle.std.specs.Cmp.Lexicographic.{slice_cmp}
use Rattle.std.specs.declared.cmp.Ordering.{Ordering}
use Rattle.std.specs.declared.cmp.Ordering.TheVariants.{Less}
use Rattle.std.specs.Ordering.{is_lt, nat_cmp, ordering_then}
use Rattle.jb_link.specs.Ids.{hash_of}

-- by the hash of the bytes, then by the bytes
abbrev pub hash_order : List ℕ → List ℕ → Ordering
hash_order one other = ordering_then (nat_cmp (hash_of one) (hash_of other)) (slice_cmp nat_cmp one other)

-- first by the id, then by the number
abbrev pub id_order : List ℕ × ℕ → List ℕ × ℕ → Ordering
id_order one other = ordering_then (hash_order one.0 other.0) (nat_cmp one.1 other.1)

-- the order of ids of one hash: first by the bytes, then by the number
abbrev pub bytes_order : List ℕ × ℕ → List ℕ × ℕ → Ordering
bytes_order one other = ordering_then (slice_cmp nat_cmp one.0 other.0) (nat_cmp one.1 other.1)

-- the same order where the hash stands before each id
abbrev pub hashed_order : ℕ × (List ℕ × ℕ) → ℕ × (List ℕ × ℕ) → Ordering
hashed_order one other = ordering_then (nat_cmp one.0 other.0) (bytes_order one.1 other.1)

-- first by the upper bits of the hash, then by the id and the number
abbrev pub key_order : ℕ × (List ℕ × ℕ) → ℕ × (List ℕ × ℕ) → Ordering
key_order one other = ordering_then (nat_cmp one.0 other.0) (id_order one.1 other.1)

-- first by the first number, then by the second
abbrev pub pair_order : ℕ × ℕ → ℕ × ℕ → Ordering
pair_order one other = ordering_then (nat_cmp one.0 other.0) (nat_cmp one.1 other.1)

-- each has a lower key than all behind it, so none stands there twice
abbrev pub IsRising : {X K : Type 0} → (K → K → Ordering) → (X → K) → List X → Type 0
IsRising order key xs = AllPairs (λ one other. order (key one) (key other) ≡ Less) xs

-- those before this place have lower keys than that one, the others have not
pub record IsSplitAt {X K : Type 0} (order : K → K → Ordering) (key : X → K) (xs : List X) (asked : K) (at : ℕ) : Type 0 where
  pub within : at ≤ length xs
  pub lower : (k : ℕ) (d : X) → k < at → order (key (slice_index_or xs k d)) asked ≡ Less
  pub rest : (k : ℕ) (d : X) → at ≤ k → k < length xs → is_lt (order (key (slice_index_or xs k d)) asked) ≡ false

-- those from one place on and before another have this first part and a number from `low` on and below `top`; no others have
pub record IsPartWith {X I : Type 0} (order : I × ℕ → I × ℕ → Ordering) (key : X → I × ℕ) (xs : List X) (asked : I) (low top from to : ℕ) : Type 0 where
  pub start : from ≤ to
  pub end : to ≤ length xs
  pub inside : (k : ℕ) (d : X) → from ≤ k → k < to → ((key (slice_index_or xs k d)).0 ≡ asked) × (low ≤ (key (slice_index_or xs k d)).1)
  pub whole : (k : ℕ) (d : X) → k < length xs → (key (slice_index_or xs k d)).0 ≡ asked → low ≤ (key (slice_index_or xs k d)).1 → (key (slice_index_or xs k d)).1 < top
      → (from ≤ k) × (k < to)
