-- What becomes of the files of a base that is recovered and then only read.
use Rattle.std.specs.Prelude.{◌≡◌, ◌≢◌, Some, Bool, false}
use Rattle.std.specs.Option.{ForSome}
use Rattle.jb_limits.specs.declared.limits.TheConstants.{MOST_SLOTS}
use Rattle.jb_disk.specs.Device.{Device}
use Rattle.jb_disk.specs.Files.{Files}
use Rattle.jb_disk.specs.Gate.{IsGateOpen}
use Rattle.jb_disk.specs.Runs.{LeavesNow, LeavesOnly}
use Rattle.jb_image.specs.declared.error.OpenError.TheVariants.{StoreFault}
use Rattle.jb_image.specs.Answers.{IsRefusedBy, is_open_fault}
use Rattle.jb_journal.specs.declared.error.JournalError.{JournalError}
use Rattle.jb_journal.specs.declared.error.JournalError.TheVariants.{BadRecord, StoreFault as JournalFault}
use Rattle.jb_journal.specs.Recover.{IsGrowthSafe, IsRefusedOver, ReplaysAsAtStart}
use Rattle.jb_redo.specs.Reading.{HasRecord}
use Rattle.jb_redo.specs.Replay.{Replays}
use Rattle.jb_tool.specs.declared.error.ToolError.{ToolError}
use Rattle.jb_tool.specs.declared.error.ToolError.TheVariants.{BadJournal, Open, AlreadyThere, TextFull, NotEmpty}

-- the disk now has the files to which these replay, nothing of them is unsynced, and they have this property
pub record HasReplayed (property : Files → Type 0) (was : Files) (after : Device) : Type 0 where
  pub files : Files
  pub told : after.contents ≡ Some files
  pub replays : Replays was files
  pub synced : LeavesNow (λ left. left ≡ files) after.moments
  pub has : property files

-- the base was recovered and then found to have this property: behind an open gate stood a record; where that writes each byte past an old end the property is one of the files to which the base replayed, and in any case one of the files that the disk now has
pub record IsRecoveredTo (property : Files → Type 0) (was : Files) (after : Device) : Type 0 where
  pub record_found : IsGateOpen was → HasRecord was
  pub replayed : IsGrowthSafe was → HasReplayed property was after
  pub now : ForSome after.contents property

-- a refusal of recovery, as one of a tool
abbrev pub tool_of_journal : JournalError → ToolError
tool_of_journal (BadRecord at) = BadJournal at
tool_of_journal JournalFault = Open StoreFault

-- which refusals are faults of the disk
abbrev pub is_tool_fault : ToolError → Bool
is_tool_fault (Open error) = is_open_fault error
is_tool_fault _ = false

-- why a base is not read: the journal's record stops here, and nothing was written; or its recovered files are refused; a fault says nothing of them
abbrev pub RefusesReading : Device → Device → ToolError → Type 0
RefusesReading before after (BadJournal at) = ForSome before.contents (IsRefusedOver (BadRecord at) after)
RefusesReading before after (Open error) = error ≢ StoreFault → ForSome before.contents (λ was. IsRecoveredTo (λ files. IsRefusedBy MOST_SLOTS files error) was after)
RefusesReading before after AlreadyThere = ⊥
RefusesReading before after (TextFull length) = ⊥
RefusesReading before after (NotEmpty file) = ⊥

-- a crash at any moment leaves files that replay to what some replay to that it might have left at the start, where the record behind an open gate writes each byte past an old end
abbrev pub KeepsReplay : Device → Device → Type 0
KeepsReplay before after = ForSome before.contents (λ was. IsGrowthSafe was → LeavesOnly before after (ReplaysAsAtStart before.moments))
