-- What a change of the files makes of them, and when it may be written; it is written in the journal's second version.
use Rattle.std.specs.Prelude.{ℕ, ◌+◌, ◌≤◌, length}
use Rattle.jb_limits.specs.declared.limits.TheConstants.{JOURNAL_CEILING}
use Rattle.jb_disk.specs.declared.version.Version.TheVariants.{Two}
use Rattle.jb_disk.specs.RedoView.{RedoView, held_by}
use Rattle.jb_disk.specs.Files.{Files}
use Rattle.jb_redo.specs.Record.{record_bytes}
use Rattle.jb_redo.specs.Replay.{applied, IsGrowthCovered}
use Rattle.jb_redo.specs.Rules.{sizes_of, AreLegalLengths, IsLegalRecord}

-- the files with the change done
abbrev pub changed : RedoView → Files → Files
changed change files = applied change.lengths change.pieces files

-- how many bytes the journal's record of the change has, whatever its number
abbrev pub record_size : RedoView → ℕ
record_size change = length (record_bytes Two 0 change.lengths change.pieces)

-- on every disk: the new lengths and the journal with the record keep their ceilings
pub record IsWritable (change : RedoView) : Type 0 where
  pub lengths_are : AreLegalLengths Two change.lengths
  pub short : 16 + record_size change ≤ JOURNAL_CEILING

-- of whatever files have the one property the change makes files of which, beside those before, the other is true
pub record Brings (change : RedoView) (before : Files → Type 0) (after : Files → Files → Type 0) : Type 0 where
  -- it makes a record over them, which writes each byte past an old end
  pub legal : (files : Files) → before files → IsLegalRecord Two (sizes_of files) change.lengths change.pieces
  pub grown : (files : Files) → before files → IsGrowthCovered change.lengths change.pieces files
  -- what the files are then
  pub made : (files : Files) → before files → after files (changed change files)

-- with nothing in it, the redo then has no less room than it had
pub record KeepsRoom (old new : RedoView) : Type 0 where
  pub for_lengths : old.spare_lengths + length old.lengths ≤ new.spare_lengths + length new.lengths
  pub for_pieces : old.spare_pieces + length old.pieces ≤ new.spare_pieces + length new.pieces
  pub for_bytes : old.spare_bytes + held_by old.pieces ≤ new.spare_bytes + held_by new.pieces
