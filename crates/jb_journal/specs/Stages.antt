-- What a crash may leave in each stage.
use Rattle.std.specs.Prelude.{◌≡◌, ◌⊎◌, ℕ, ◌<◌, ◌≤◌, [], ◌∷◌, length, slice_index}
use Rattle.jb_disk.specs.declared.file.FileId.TheVariants.{Jnl}
use Rattle.jb_disk.specs.RedoView.{RedoView}
use Rattle.jb_disk.specs.Files.{Files, with_file, written}
use Rattle.jb_disk.specs.declared.version.Version.TheVariants.{Two}
use Rattle.jb_disk.specs.Gate.{IsGateOpen, version_of, with_gate_closed}
use Rattle.jb_redo.specs.OnTheWay.{IsOnTheWay}
use Rattle.jb_redo.specs.Reading.{IsRecordOf}
use Rattle.jb_redo.specs.Replay.{IsGrowthCovered}
use Rattle.jb_journal.specs.Commit.{AgreeButJournal, journal_of}
use Rattle.jb_redo.specs.Changes.{changed}

-- while the record is written: the other files and the head of the journal are as at the start
pub record KeepsHead (start files : Files) : Type 0 where
  pub same : AgreeButJournal files start
  pub long : 16 ≤ length (files Jnl)
  pub head : (i : ℕ) → i < 16 → slice_index (files Jnl) i ≡ slice_index (start Jnl) i

-- the record stands behind the head
abbrev pub with_record : ℕ → RedoView → Files → Files
with_record number change files = with_file Jnl (journal_of number change files) files

-- and the gate is open
abbrev pub opened : ℕ → RedoView → Files → Files
opened number change files = written Jnl 0 (2 ∷ []) (with_record number change files)

-- while the gate is written: all but the journal's first byte is as in these files
pub record IsAtGate (base files : Files) : Type 0 where
  pub same : AgreeButJournal files base
  pub size : length (files Jnl) ≡ length (base Jnl)
  pub behind : (i : ℕ) → 1 ≤ i → slice_index (files Jnl) i ≡ slice_index (base Jnl) i

-- the gate stands open before the record of this change, which writes each byte past an old end
pub record IsOpened (change : RedoView) (files : Files) : Type 0 where
  pub gate : IsGateOpen files
  pub has : IsRecordOf files change.lengths change.pieces
  pub grown : IsGrowthCovered change.lengths change.pieces files

-- the change is on its way from these files, behind an open gate
abbrev pub IsGoing : RedoView → Files → Files → Type 0
IsGoing change from files = IsOnTheWay change.lengths change.pieces from files

-- the change is done and the gate closed
abbrev pub closed : RedoView → Files → Files
closed change from = with_gate_closed (changed change from)

-- the change is on its way, or it is done and the gate is being closed
abbrev pub IsClosing : RedoView → Files → Files → Type 0
IsClosing change from files = IsGoing change from files ⊎ IsAtGate (closed change from) files

-- the change is under way in these files, from some with an open gate and a journal of the second version
pub record IsUnderWay (change : RedoView) (files : Files) : Type 0 where
  pub from : Files
  pub is : IsOpened change from
  pub two : version_of from ≡ Two
  pub way : IsGoing change from files
