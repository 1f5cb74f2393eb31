-- What `make` answers, and what it makes of the files of a base.
use Rattle.std.specs.Prelude.{◌≡◌, ◌≢◌, ◌⊎◌, ◌<◌, ℕ, List, [], Bool, true, false, None, Some, Ok, Err}
use Rattle.std.specs.Option.{ForSome}
use Rattle.jb_change.specs.NewBase.{AreEmpty, AreNew, new_area}
use Rattle.jb_disk.specs.RedoView.{RedoView, HasRoom}
use Rattle.jb_disk.specs.Device.{Device}
use Rattle.jb_disk.specs.Files.{Files, file_number}
use Rattle.jb_disk.specs.Gate.{IsGateOpen}
use Rattle.jb_disk.specs.declared.file.FileId.{FileId}
use Rattle.jb_disk.specs.Runs.{LeavesNow, LeavesOnly}
use Rattle.jb_image.specs.declared.error.OpenError.{OpenError}
use Rattle.jb_image.specs.declared.error.OpenError.TheVariants.{OutOfMemory as no_memory, StoreFault}
use Rattle.jb_journal.specs.declared.error.JournalError.TheVariants.{BadRecord}
use Rattle.jb_journal.specs.declared.error.Recovered.{Recovered}
use Rattle.jb_area.specs.Commits.{IsNumbered}
use Rattle.jb_journal.specs.Recover.{IsGrowthSafe, IsRefusedOver, ReplaysAsAtStart}
use Rattle.jb_record.specs.declared.fixed.TheConstants.{FIXED_HEADER_BYTES}
use Rattle.jb_redo.specs.Reading.{HasRecord}
use Rattle.jb_redo.specs.Replay.{Replays}
use Rattle.jb_tool.specs.Outcome.{tool_outcome}
use Rattle.jb_tool.specs.Recovered.{IsRecoveredTo}
use Rattle.jb_tool.specs.Tending.{ToolAnswer}
use Rattle.jb_tool.specs.declared.error.ToolError.{ToolError}
use Rattle.jb_tool.specs.declared.error.ToolError.TheVariants.{BadJournal, Open, AlreadyThere, TextFull, NotEmpty}
use Rattle.jb_tool.specs.declared.tool.Tool.TheVariants as tool

-- one of the four files of a base is not empty
pub record HoldSomething (files : Files) : Type 0 where
  pub file : FileId
  pub of_base : file_number file < 4
  pub some : files file ≢ []

-- what the files replay to has this property
pub record ReplayInto (property : Files → Type 0) (files : Files) : Type 0 where
  pub after : Files
  pub replays : Replays files after
  pub has : property after

-- the disk has the new base now, behind a closed gate and with nothing unsynced; the record that made it has the number 1
pub record HasNewBase (moment : ℕ) (after : Device) : Type 0 where
  pub files : Files
  pub told : after.contents ≡ Some files
  pub new : AreNew moment files
  pub numbered : IsNumbered 1 files
  pub shut : IsGateOpen files → ⊥
  pub synced : LeavesNow (λ left. left ≡ files) after.moments

-- the base was made: behind an open gate stood a record; where that writes each byte past an old end, the files replayed to empty ones
pub record IsMade (moment : ℕ) (text : List ℕ) (was : Files) (after : Device) : Type 0 where
  pub outcome : (found : Recovered) → tool_outcome tool.Make moment found None text (new_area moment)
  pub record_found : IsGateOpen was → HasRecord was
  pub replayed : IsGrowthSafe was → ReplayInto AreEmpty was
  pub now : HasNewBase moment after

-- no base is made: there was no memory, and nothing was done; or the disk failed
abbrev pub IsNotMade : Device → Device → OpenError → Type 0
IsNotMade before after error = ((error ≡ no_memory) × (after ≡ before)) ⊎ (error ≡ StoreFault)

-- why: the journal's record stops here, and nothing was written; or one of the recovered files is not empty, and nothing more was written
abbrev pub RefusesMaking : Device → Device → ToolError → Type 0
RefusesMaking before after (BadJournal at) = ForSome before.contents (IsRefusedOver (BadRecord at) after)
RefusesMaking before after AlreadyThere = ForSome before.contents (λ was. IsRecoveredTo HoldSomething was after)
RefusesMaking before after (Open error) = IsNotMade before after error
RefusesMaking before after (TextFull length) = ⊥
RefusesMaking before after (NotEmpty file) = ⊥

-- the answer of `make`
abbrev pub AnswersMake : ℕ → Device → Device → ToolAnswer → Type 0
AnswersMake moment before after (Ok text) = ForSome before.contents (λ was. IsMade moment text was after)
AnswersMake moment before after (Err error) = RefusesMaking before after error

-- files that replay to empty ones, or to those of the new base
abbrev pub AreNoneOrNew : ℕ → Files → Type 0
AreNoneOrNew moment files = ReplayInto AreEmpty files ⊎ ReplayInto (AreNew moment) files

-- a crash at any moment leaves files that replay to exactly what some replay to that it might have left at the start; or the base replayed to empty files, and these replay to empty ones or to those of the new base
abbrev pub KeepsOrMakes : ℕ → Device → Device → Type 0
KeepsOrMakes moment before after = ForSome before.contents (λ was. IsGrowthSafe was
    → LeavesOnly before after (λ files. ReplaysAsAtStart before.moments files ⊎ ReplayInto AreEmpty was × AreNoneOrNew moment files))

-- an empty change, with room for the one that makes a base
pub record IsRoom (change : RedoView) : Type 0 where
  pub no_lengths : change.lengths ≡ []
  pub no_pieces : change.pieces ≡ []
  pub room : HasRoom 4 1 FIXED_HEADER_BYTES change

-- whether the four files are empty
abbrev pub IsFoundEmpty : Bool → Files → Type 0
IsFoundEmpty true files = AreEmpty files
IsFoundEmpty false files = HoldSomething files

-- behind a closed gate four empty files
pub record AreShutAndEmpty (files : Files) : Type 0 where
  pub empty : AreEmpty files
  pub shut : IsGateOpen files → ⊥
