-- What a backup makes of its target and of what its pass knows.
use Rattle.std.specs.Prelude.{◌≡◌, ℕ, Bool, true, false, List, length, Some, Result, Ok, Err}
use Rattle.std.specs.Option.{ForSome}
use Rattle.jb_area.specs.Backups.{IsBackup, OpensToState, capped_state}
use Rattle.jb_backup.specs.Answers.{IsFault, MayRefuse, is_target_fault}
use Rattle.jb_backup.specs.Begin.{BeginsAs}
use Rattle.jb_backup.specs.Target.{AreEmpty}
use Rattle.jb_backup.specs.declared.error.BackupError.{BackupError}
use Rattle.jb_backup.specs.declared.error.BackupError.TheVariants.{SourceFault, TargetFault, InDoubt, NotEmpty, OutOfMemory}
use Rattle.jb_disk.specs.Device.{CountsFaults, Device, TellsAlike}
use Rattle.jb_disk.specs.Runs.{LeavesOnly, Shows}
use Rattle.jb_model.specs.Standing.{Settled}
use Rattle.jb_model.specs.declared.entry.Entry.{Entry}
use Rattle.jb_state.specs.Live.{live_count}
use Rattle.jb_state.specs.State.{AreaState}
use Rattle.jb_shared.specs.Histories.{IsHistory, Tells, leads_to, state_at, stopped_last}
use Rattle.jb_shared.specs.Passes.{Known}
use Rattle.jb_shared.specs.Stepping.{HasTaken}
use Rattle.jb_shared.specs.declared.backed.Backed.{Backed}
use Rattle.jb_shared.specs.declared.opening.Opening.{Opening}

-- the state after this history; where it leads into a doubt, the one before the change
abbrev pub state_after : Opening → List Entry → AreaState
state_after opening history = state_at (leads_to opening history)

-- the history leads to a state that has so many live messages, and to which all opens that is read of the target or that a crash leaves
-- of it; .JHR and .JDT are copied up to their ceilings
pub record BacksState (opening : Opening) (history : List Entry) (live : ℕ) (target : Device) : Type 0 where
  pub state : AreaState
  pub leads : leads_to opening history ≡ Settled state
  pub live_are : live ≡ live_count state.slots
  pub opens : Shows (OpensToState (capped_state state)) target

-- whether the history that is known ends with a call that the device stopped, so that the area is in doubt behind it
abbrev pub EndsStopped : Known → Bool → Type 0
EndsStopped known stopped = stopped_last known.front ≡ stopped

-- a backup that is made: of all the history that is known, which is legal and ends settled, and where the disk of the area tells its
-- files, of the state after it
pub record HasBackedUp (known : Known) (target : Device) (backed : Backed) : Type 0 where
  pub ends : EndsStopped known false
  pub entries_are : backed.entries ≡ length known.front
  pub history : (opening : Opening) → known.opening ≡ Some opening → IsHistory opening known.front
  pub state : (opening : Opening) → known.opening ≡ Some opening → Tells opening → BacksState opening known.front backed.live target

-- how the last turn ends: the backup is made; or the area is in doubt, just where the history ends so; or a disk fails
abbrev pub FinishesAs : Known → Device → Result Backed BackupError → Type 0
FinishesAs known target (Ok backed) = HasBackedUp known target backed
FinishesAs known target (Err InDoubt) = EndsStopped known true
FinishesAs known target (Err error) = IsFault error × EndsStopped known false

-- how turns end of which that may be the last: so, or a disk fails before it
abbrev pub TurnsEnd : Known → Device → Result Backed BackupError → Type 0
TurnsEnd known target (Ok backed) = HasBackedUp known target backed
TurnsEnd known target (Err InDoubt) = EndsStopped known true
TurnsEnd known target (Err error) = IsFault error

-- the answer of a last turn, by how many entries the history has then and how many messages are live
abbrev pub told_backed : ℕ → Result ℕ BackupError → Result Backed BackupError
told_backed entries (Ok live) = Ok (record { entries = entries; live = live })
told_backed entries (Err error) = Err error

-- turns that end so: more of the history was taken, and a crash at each moment of them leaves a backup of the state after all of that
pub record Finishes (end : Known → Device → Result Backed BackupError → Type 0) (old new : Known) (target target_now : Device) (result : Result Backed BackupError) : Type 0 where
  pub taken : HasTaken old new
  pub ends : end new target_now result
  pub crash : (opening : Opening) → old.opening ≡ Some opening → Tells opening → LeavesOnly target target_now (IsBackup (state_after opening new.front))
  pub faults : CountsFaults is_target_fault target target_now result
  pub alike : TellsAlike target target_now

-- what is so by the answer: the backup is made; the target is not empty, and reads as before; want of memory asks nothing of it; a doubt
-- is told only where the history that was taken last ends with one
abbrev pub AnswersBackup : Known → Device → Device → Result Backed BackupError → Type 0
AnswersBackup known target target_now (Ok backed) = HasBackedUp known target_now backed
AnswersBackup known target target_now (Err SourceFault) = Unit {0}
AnswersBackup known target target_now (Err TargetFault) = Unit {0}
AnswersBackup known target target_now (Err InDoubt) = EndsStopped known true
AnswersBackup known target target_now (Err (NotEmpty file)) = MayRefuse target target_now (NotEmpty file)
AnswersBackup known target target_now (Err OutOfMemory) = target_now ≡ target

-- the files of the target were empty; a target that failed may have done so before they were read
abbrev pub HasFoundEmpty : Device → Result Backed BackupError → Type 0
HasFoundEmpty target (Ok backed) = ForSome target.contents AreEmpty
HasFoundEmpty target (Err SourceFault) = ForSome target.contents AreEmpty
HasFoundEmpty target (Err InDoubt) = ForSome target.contents AreEmpty
HasFoundEmpty target (Err error) = Unit {0}

-- a backup in the turns of a pass: it takes the history, and all else that is known stays. From when the target's files are synced first a
-- crash leaves of it a base that is refused, or the whole backup of the state after that history
pub record BacksUp (old new : Known) (target target_now : Device) (result : Result Backed BackupError) : Type 0 where
  pub taken : HasTaken old new
  pub answers : AnswersBackup new target target_now result
  pub empty : HasFoundEmpty target result
  pub crash : (opening : Opening) → old.opening ≡ Some opening → Tells opening → BeginsAs (IsBackup (state_after opening new.front)) target target_now
  pub faults : CountsFaults is_target_fault target target_now result
  pub alike : TellsAlike target target_now
