-- What a backup answers, and what it makes of the disk that it is made on.
use Rattle.std.specs.Prelude.{◌≡◌, ◌⊎◌, ℕ, ◌≤◌, Bool, true, false, List, codes, Ok, Err, OnOk, IfErr}
use Rattle.std.specs.Option.{ForSome}
use Rattle.jb_area.specs.Backups.{IsBackup, OpensToState, capped_state}
use Rattle.jb_area_open.specs.Opening.{IsRecovered, Refuses}
use Rattle.jb_area_open.specs.declared.error.OpeningError.TheVariants.{BadJournal as bad_journal, Base}
use Rattle.jb_backup.specs.Answers.{IsFirstFull}
use Rattle.jb_backup.specs.Begin.{BeginsAs, LeavesNoMore}
use Rattle.jb_backup.specs.Target.{AreEmpty}
use Rattle.jb_backup.specs.declared.error.BackupError.{BackupError}
use Rattle.jb_backup.specs.declared.error.BackupError.TheVariants as copier
use Rattle.jb_bytes.specs.Fault.{Rose}
use Rattle.jb_disk.specs.declared.file.FileId.{FileId}
use Rattle.jb_disk.specs.Device.{Device}
use Rattle.jb_disk.specs.Files.{Files}
use Rattle.jb_disk.specs.Runs.{Shows}
use Rattle.jb_image.specs.Stands.{StandsFor}
use Rattle.jb_image.specs.declared.error.OpenError.{OpenError}
use Rattle.jb_image.specs.declared.error.OpenError.TheVariants.{OutOfMemory as no_memory, StoreFault}
use Rattle.jb_journal.specs.Recover.{IsGrowthSafe}
use Rattle.jb_limits.specs.declared.limits.TheConstants.{MOST_SLOTS}
use Rattle.jb_state.specs.Live.{live_count}
use Rattle.jb_state.specs.State.{AreaState}
use Rattle.jb_tool.specs.Check.{count_line}
use Rattle.jb_tool.specs.Recovered.{is_tool_fault}
use Rattle.jb_tool.specs.Tending.{OpensFor, ToolAnswer}
use Rattle.jb_tool.specs.declared.error.ToolError.{ToolError}
use Rattle.jb_tool.specs.declared.error.ToolError.TheVariants.{AlreadyThere, BadJournal, NotEmpty, Open, TextFull}

-- the line that a backup prints of an area with so many live messages
abbrev pub backed_line : ℕ → List ℕ
backed_line live = count_line (codes "backed") live

-- a refusal of the copier, as one of the tool
abbrev pub of_backup : BackupError → ToolError
of_backup copier.SourceFault = Open StoreFault
of_backup copier.TargetFault = Open StoreFault
of_backup copier.InDoubt = Open StoreFault
of_backup (copier.NotEmpty file) = NotEmpty file
of_backup copier.OutOfMemory = Open no_memory

-- the base is recovered and opened to this state, for which its files now stand
pub record IsOpenedAs (state : AreaState) (was : Files) (after : Device) : Type 0 where
  pub recovered : IsRecovered was after
  pub stands : ForSome after.contents (λ files. StandsFor MOST_SLOTS files state)
  pub opened : IsGrowthSafe was → OpensFor state was

-- and a crash at each moment left of the target what it might have before, until its files were found empty, and from then on a backup of that state
pub record IsBackedInPart (was : Files) (after target target_now : Device) : Type 0 where
  pub state : AreaState
  pub opened : IsOpenedAs state was after
  pub crash : BeginsAs (IsBackup state) target target_now

-- the target was empty, and opens to that state now, as it is read and after a crash; and this says how many messages are live in it
pub record IsBackedUp (text : List ℕ) (was : Files) (after target target_now : Device) : Type 0 where
  pub part : IsBackedInPart was after target target_now
  pub empty : ForSome target.contents AreEmpty
  pub opens : Shows (OpensToState (capped_state part.state)) target_now
  pub line : text ≡ backed_line (live_count part.state.slots)

-- the base was opened, and nothing more
pub record IsOnlyOpened (was : Files) (after : Device) : Type 0 where
  pub state : AreaState
  pub opened : IsOpenedAs state was after

-- this is the first file of the target that is not empty, and all of them are as they were
pub record IsFoundFull (file : FileId) (target target_now : Device) : Type 0 where
  pub full : ForSome target.contents (IsFirstFull file)
  pub same : target_now.contents ≡ target.contents
  pub left : ForSome target.contents (λ files. LeavesNoMore target.moments target_now.moments)

-- why no copying was begun: there was no memory, and nothing was done; or the base is not opened for this; or there was no memory once it was opened
abbrev pub IsNotBegun : Device → Device → OpenError → Type 0
IsNotBegun before after error =
    ((error ≡ no_memory) × (after ≡ before))
    ⊎ (Refuses MOST_SLOTS before after (Base error) ⊎ ((error ≡ no_memory) × ForSome before.contents (λ was. IsOnlyOpened was after)))

-- the base is not backed up: no copying was begun, and the target was not asked; or one of the disks failed after that
abbrev pub IsNotBackedUp : Device → Device → Device → Device → OpenError → Type 0
IsNotBackedUp before after target target_now error =
    ((target_now ≡ target) × IsNotBegun before after error)
    ⊎ ((error ≡ StoreFault) × ForSome before.contents (λ was. IsBackedInPart was after target target_now))

-- what a backup answers, and what becomes of the disks of the base and of the target
abbrev pub BacksUp : Device → Device → Device → Device → ToolAnswer → Type 0
BacksUp before after target target_now (Ok text) = ForSome before.contents (λ was. IsBackedUp text was after target target_now)
BacksUp before after target target_now (Err (BadJournal at)) = (target_now ≡ target) × Refuses MOST_SLOTS before after (bad_journal at)
BacksUp before after target target_now (Err (Open error)) = IsNotBackedUp before after target target_now error
BacksUp before after target target_now (Err (NotEmpty file)) =
    IsFoundFull file target target_now × ForSome before.contents (λ was. IsOnlyOpened was after)
BacksUp before after target target_now (Err AlreadyThere) = ⊥
BacksUp before after target target_now (Err (TextFull length)) = ⊥

-- what becomes of the counts of two disks where a call is refused: a fault raises one of them, and no other refusal does
abbrev pub RoseInOneIf : Bool → ℕ → ℕ → ℕ → ℕ → Type 0
RoseInOneIf true one one_now other other_now = Rose one one_now ⊎ Rose other other_now
RoseInOneIf false one one_now other other_now = (one_now ≡ one) × (other_now ≡ other)

-- calls of two disks: their counts stay where it is done, never fall, and one of them rises exactly where the refusal is a fault
pub record CountsInOne (one one_now other other_now : Device) (answer : ToolAnswer) : Type 0 where
  pub quiet : OnOk answer ((one_now.faults ≡ one.faults) × (other_now.faults ≡ other.faults))
  pub later : one.faults ≤ one_now.faults
  pub other_later : other.faults ≤ other_now.faults
  pub cause : IfErr answer (λ error. RoseInOneIf (is_tool_fault error) one.faults one_now.faults other.faults other_now.faults)

-- what a backup answers over two disks, before it and after it, and what it does to their counts
pub record AnswersBackup (before after target target_now : Device) (answer : ToolAnswer) : Type 0 where
  pub says : BacksUp before after target target_now answer
  pub faults : CountsInOne before after target target_now answer
