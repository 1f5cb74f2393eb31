-- What a write and a change of length do to one file, seen or not.
use Rattle.std.specs.Prelude.{◌≡◌, ◌⊎◌, ℕ, ◌+◌, ◌<◌, ◌≤◌, min, max, List, [], ◌∷◌, length, slice_index}
use Rattle.jb_disk.specs.Files.{overwritten}
use Rattle.jb_disk.specs.Images.{Unsynced, IsWritten}

-- any bytes in the range of a write, the same elsewhere
pub record Torn (at len : ℕ) (old new : List ℕ) : Type 0 where
  pub size : length new ≡ length old
  pub below : (i : ℕ) → i < at → slice_index new i ≡ slice_index old i
  pub above : (i : ℕ) → at + len ≤ i → slice_index new i ≡ slice_index old i

-- any length between the old one and this, any bytes at or past the lesser of the two
pub record Cut (len : ℕ) (old new : List ℕ) : Type 0 where
  pub no_shorter : min (length old) len ≤ length new
  pub no_longer : length new ≤ max (length old) len
  pub below : (i : ℕ) → i < length old → i < len → slice_index new i ≡ slice_index old i

-- a place whose byte a crash leaves open
abbrev pub IsOpen : Unsynced → ℕ → Type 0
IsOpen file i = IsWritten file.ranges i ⊎ (file.least ≤ i)

-- two files of one length that hold the same but in these places
pub record AgreesBut (places : ℕ → Type 0) (one other : List ℕ) : Type 0 where
  pub size : length one ≡ length other
  pub same : (i : ℕ) → i < length one → places i ⊎ (slice_index one i ≡ slice_index other i)

-- bytes at a place of a file
pub record Span : Type 0 where
  pub at : ℕ
  pub bytes : List ℕ

-- a place that some of them has
abbrev pub IsCovered : List Span → ℕ → Type 0
IsCovered [] i = ⊥
IsCovered (span ∷ spans) i = ((span.at ≤ i) × (i < span.at + length span.bytes)) ⊎ IsCovered spans i

-- each of them ends at or below this length
abbrev pub AreWithin : List Span → ℕ → Type 0
AreWithin [] len = Unit {0}
AreWithin (span ∷ spans) len = (span.at + length span.bytes ≤ len) × AreWithin spans len

-- a file with all of them written over it, in order
abbrev pub patched : List Span → List ℕ → List ℕ
patched [] old = old
patched (span ∷ spans) old = patched spans (overwritten span.at span.bytes old)
