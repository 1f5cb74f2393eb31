-- Which bytes of a file an extent holds, and the first two extents of a list that share one.
use Rattle.std.specs.Prelude.{ℕ, ◌+◌, ◌<◌, ◌≤◌, List, length, take, slice_index_or, AllPairs}
use Rattle.jb_image.specs.declared.extent.Extent.{Extent}
use Rattle.jb_image.specs.declared.overlapping.Overlap.{Overlap}

-- this byte of the file belongs to the extent
abbrev pub HoldsByte : Extent → ℕ → Type 0
HoldsByte extent i = (extent.start ≤ i) × (i < extent.start + extent.len)

-- no byte belongs to both
abbrev pub AreDisjoint : Extent → Extent → Type 0
AreDisjoint one other = (i : ℕ) → HoldsByte one i → HoldsByte other i → ⊥

-- some byte belongs to both
abbrev pub ShareByte : Extent → Extent → Type 0
ShareByte one other = (i : ℕ) × HoldsByte one i × HoldsByte other i

-- `other` is the lowest place that shares a byte with a lower one, and `one` the lowest that shares a byte with it
pub record IsFirstOverlap (extents : List Extent) (overlap : Overlap) : Type 0 where
  pub before : overlap.one < overlap.other
  pub placed : overlap.other < length extents
  pub shared : (d : Extent)
      → ShareByte (slice_index_or extents overlap.one d) (slice_index_or extents overlap.other d)
  pub lowest_other : AllPairs AreDisjoint (take overlap.other extents)
  pub lowest_one : (k : ℕ) (d : Extent) → k < overlap.one
      → AreDisjoint (slice_index_or extents k d) (slice_index_or extents overlap.other d)
