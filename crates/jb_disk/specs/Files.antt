-- The six files of an area as lists of bytes.
use Rattle.std.specs.Prelude.{◌≡◌, ◌≢◌, ℕ, ◌+◌, ◌<◌, ◌==◌, List, ◌++◌, length, take, drop, slice_index, if◌then◌else◌}
use Rattle.jb_limits.specs.declared.limits.TheConstants.{HEADERS_CEILING, TEXTS_CEILING, INDEX_CEILING, LASTREAD_CEILING, JOURNAL_CEILING, SHADOW_CEILING, FIRST_HEADERS_CEILING, FIRST_TEXTS_CEILING, FIRST_INDEX_CEILING}
use Rattle.jb_disk.specs.declared.file.FileId.{FileId}
use Rattle.jb_disk.specs.declared.file.FileId.TheVariants.{Jhr, Jdt, Jdx, Jlr, Jnl, Ndt}

-- the bytes of each file
abbrev pub Files : Type 0
Files = FileId → List ℕ

-- the number by which the journal names a file
abbrev pub file_number : FileId → ℕ
file_number Jhr = 0
file_number Jdt = 1
file_number Jdx = 2
file_number Jlr = 3
file_number Jnl = 4
file_number Ndt = 5

-- the greatest length that a file is given
abbrev pub ceiling_of : FileId → ℕ
ceiling_of Jhr = HEADERS_CEILING
ceiling_of Jdt = TEXTS_CEILING
ceiling_of Jdx = INDEX_CEILING
ceiling_of Jlr = LASTREAD_CEILING
ceiling_of Jnl = JOURNAL_CEILING
ceiling_of Ndt = SHADOW_CEILING

-- the greatest length that it had under the first version of the journal, which gives one to the first four alone
abbrev pub first_ceiling_of : FileId → ℕ
first_ceiling_of Jhr = FIRST_HEADERS_CEILING
first_ceiling_of Jdt = FIRST_TEXTS_CEILING
first_ceiling_of Jdx = FIRST_INDEX_CEILING
first_ceiling_of Jlr = LASTREAD_CEILING
first_ceiling_of Jnl = JOURNAL_CEILING
first_ceiling_of Ndt = SHADOW_CEILING

-- these files, with other bytes in one of them
abbrev pub with_file : FileId → List ℕ → Files → Files
with_file file bytes files other = if file_number other == file_number file then bytes else files other

-- bytes with others over them from a place on
unfoldable pub overwritten : ℕ → List ℕ → List ℕ → List ℕ
overwritten at bytes old = take at old ++ bytes ++ drop (at + length bytes) old

-- these files after a write
abbrev pub written : FileId → ℕ → List ℕ → Files → Files
written file at bytes files = with_file file (overwritten at bytes (files file)) files

-- a file of another length, in which what both hold is the same
pub record IsResized (len : ℕ) (old new : List ℕ) : Type 0 where
  pub size : length new ≡ len
  pub same : (i : ℕ) → i < length old → i < len → slice_index new i ≡ slice_index old i

-- one file changes thus, and the others are as before
pub record InFile (file : FileId) (change : List ℕ → List ℕ → Type 0) (old new : Files) : Type 0 where
  pub here : change (old file) (new file)
  pub others : (other : FileId) → other ≢ file → new other ≡ old other
