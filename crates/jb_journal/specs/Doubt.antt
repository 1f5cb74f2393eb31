-- What a commit that was stopped leaves, and what settling makes of it.
use Rattle.std.specs.Prelude.{◌≡◌, ◌⊎◌, ℕ, Bool, if◌then◌else◌}
use Rattle.std.specs.Option.{ForSome}
use Rattle.jb_disk.specs.declared.file.FileId.TheVariants.{Jnl}
use Rattle.jb_disk.specs.RedoView.{RedoView}
use Rattle.jb_disk.specs.Device.{Device, MayChange}
use Rattle.jb_disk.specs.Images.{just_synced, with_image}
use Rattle.jb_disk.specs.Files.{Files}
use Rattle.jb_disk.specs.Runs.{Shows}
use Rattle.jb_disk.specs.Gate.{IsGateOpen}
use Rattle.jb_journal.specs.declared.stopped.Stopped.{Stopped}
use Rattle.jb_journal.specs.declared.stopped.Stopped.TheVariants.{Early, Late}
use Rattle.jb_journal.specs.Commit.{AgreeButJournal, IsPlain, IsReady, ReplaysTo, IsBeforeOrAfter, committed}
use Rattle.jb_redo.specs.Changes.{changed}
use Rattle.jb_journal.specs.Stages.{IsAtGate, IsGoing, opened}

-- stopped early: the other files are as before the change, and behind an open gate stands its whole record
pub record IsEarly (number : ℕ) (change : RedoView) (start files : Files) : Type 0 where
  pub same : AgreeButJournal files start
  pub gate : IsGateOpen files → files Jnl ≡ opened number change start Jnl

-- stopped late: the gate stands open and the change is on its way, or it is done and the gate is being closed
abbrev pub IsLate : ℕ → RedoView → Files → Files → Type 0
IsLate number change start files = IsGoing change (opened number change start) files ⊎ IsAtGate (committed number change start) files

-- what is left of a commit of this change, with this number, over the files at the start, by where it was stopped
abbrev pub IsInDoubt : Stopped → ℕ → RedoView → Files → Files → Type 0
IsInDoubt Early number change start files = IsEarly number change start files
IsInDoubt Late number change start files = IsLate number change start files

-- the device holds what a commit of this change leaves that was stopped here, for some files at its start
pub record HasStopped (stopped : Stopped) (change : RedoView) (device : Device) : Type 0 where
  pub number : ℕ
  pub start : Files
  pub ready : IsReady number change start
  pub shows : Shows (IsInDoubt stopped number change start) device

-- what a crash then leaves replays to the files before the change or after it, and after a late stop to those after it
abbrev pub DoubtReplays : Stopped → RedoView → Files → Files → Type 0
DoubtReplays Early change start files = IsBeforeOrAfter change start files
DoubtReplays Late change start files = ReplaysTo (changed change start) files

-- behind a gate that reads as open nothing was tried but to sync the journal, so that the gate was not read yet
abbrev pub HasTriedToSync : Device → Device → Type 0
HasTriedToSync old new = ForSome old.contents (λ files. IsGateOpen files
    → MayChange (with_image Jnl (λ _. just_synced (files Jnl))) old.moments new.moments)

-- the files as the answer says: with the change, or as they were
abbrev pub settled_files : Bool → RedoView → Files → Files
settled_files stands change start = if stands then changed change start else start

-- but for the journal these are the files, and the journal is plain
pub record IsSettledAt (base files : Files) : Type 0 where
  pub same : AgreeButJournal files base
  pub plain : IsPlain files
