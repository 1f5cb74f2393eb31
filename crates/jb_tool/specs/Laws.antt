-- What makes the tools complete: each serves what opens, a base is made where none is, and what opens is backed up.
use Rattle.std.specs.Prelude.{◌≡◌, ◌≢◌, ℕ, Some, Ok, Err}
use Rattle.std.specs.Option.{ForSome}
use Rattle.jb_area_open.specs.Laws.{OpensWithin}
use Rattle.jb_backup.specs.Answers.{IsFirstFull}
use Rattle.jb_bytes.specs.Fault.{Rose}
use Rattle.jb_change.specs.NewBase.{AreEmpty}
use Rattle.jb_disk.specs.Device.{Device}
use Rattle.jb_disk.specs.Files.{Files}
use Rattle.jb_image.specs.declared.error.OpenError.TheVariants.{OutOfMemory as no_memory}
use Rattle.jb_journal.specs.Recover.{IsGrowthSafe}
use Rattle.jb_limits.specs.declared.limits.TheConstants.{MOST_SLOTS}
use Rattle.jb_tool.specs.Answers.{AnswersTool}
use Rattle.jb_tool.specs.Backing.{AnswersBackup}
use Rattle.jb_tool.specs.Making.{ReplayInto}
use Rattle.jb_tool.specs.Tending.{ToolAnswer}
use Rattle.jb_tool.specs.declared.error.ToolError.TheVariants.{BadJournal, Open, AlreadyThere, TextFull, NotEmpty}
use Rattle.jb_tool.specs.declared.tool.Tool.{Tool}
use Rattle.jb_tool.specs.declared.tool.Tool.TheVariants.{Make, Pack}

-- the tool was used on these files and answers so, and no fault was counted meanwhile
pub record IsUsedOn (was : Files) (tool : Tool) (moment : ℕ) (before after : Device) (answer : ToolAnswer) : Type 0 where
  pub told : before.contents ≡ Some was
  pub answers : AnswersTool tool moment before after answer
  pub quiet : Rose before.faults after.faults → ⊥

-- an answer of a base that opens: a text, but not from `make`; want of memory; of `make` that a base is there, of `pack` that the texts are too long
abbrev pub IsCompleteAnswer : Tool → ToolAnswer → Type 0
IsCompleteAnswer tool (Ok text) = tool ≢ Make
IsCompleteAnswer tool (Err (Open error)) = error ≡ no_memory
IsCompleteAnswer tool (Err AlreadyThere) = tool ≡ Make
IsCompleteAnswer tool (Err (TextFull length)) = tool ≡ Pack
IsCompleteAnswer tool (Err (BadJournal at)) = ⊥
IsCompleteAnswer tool (Err (NotEmpty file)) = ⊥

-- a tool serves each base that opens
abbrev pub ServesWhatOpens : Type 0
ServesWhatOpens = (was : Files) (tool : Tool) (moment : ℕ) (before after : Device) (answer : ToolAnswer) → OpensWithin MOST_SLOTS was
    → IsUsedOn was tool moment before after answer → IsCompleteAnswer tool answer

-- a backup was made of these files and answers so, and no fault was counted meanwhile
pub record IsBackedUpFrom (was : Files) (before after target target_now : Device) (answer : ToolAnswer) : Type 0 where
  pub told : before.contents ≡ Some was
  pub answers : AnswersBackup before after target target_now answer
  pub quiet : Rose before.faults after.faults → ⊥
  pub target_quiet : Rose target.faults target_now.faults → ⊥

-- an answer of a base that opens: a text; want of memory; or that a file of the target is not empty
abbrev pub IsCompleteBackup : Device → ToolAnswer → Type 0
IsCompleteBackup target (Ok text) = Unit {0}
IsCompleteBackup target (Err (Open error)) = error ≡ no_memory
IsCompleteBackup target (Err (NotEmpty file)) = ForSome target.contents (IsFirstFull file)
IsCompleteBackup target (Err AlreadyThere) = ⊥
IsCompleteBackup target (Err (TextFull length)) = ⊥
IsCompleteBackup target (Err (BadJournal at)) = ⊥

-- each base that opens is backed up
abbrev pub BacksUpWhatOpens : Type 0
BacksUpWhatOpens = (was : Files) (before after target target_now : Device) (answer : ToolAnswer) → OpensWithin MOST_SLOTS was
    → IsBackedUpFrom was before after target target_now answer → IsCompleteBackup target answer

-- the files replay to four empty ones; a record behind an open gate writes each byte past an old end
pub record HoldNoBase (was : Files) : Type 0 where
  pub empty : ReplayInto AreEmpty was
  pub safe : IsGrowthSafe was

-- done, or there was no memory
abbrev pub IsDoneOrNoMemory : ToolAnswer → Type 0
IsDoneOrNoMemory (Ok text) = Unit {0}
IsDoneOrNoMemory (Err error) = error ≡ Open no_memory

-- a base is made where none is
abbrev pub MakesWhereNoneIs : Type 0
MakesWhereNoneIs = (was : Files) (moment : ℕ) (before after : Device) (answer : ToolAnswer) → HoldNoBase was
    → IsUsedOn was Make moment before after answer → IsDoneOrNoMemory answer
