-- What the calls of a copier answer, and which disk has failed.
use Rattle.std.specs.Prelude.{◌≡◌, ◌≢◌, ℕ, ◌+◌, ◌<◌, nat_lt, min, max, List, [], length, Bool, true, false, Result, IfErr}
use Rattle.std.specs.Option.{ForSome}
use Rattle.jb_limits.specs.declared.limits.TheConstants.{TEXTS_CEILING}
use Rattle.jb_disk.specs.declared.file.FileId.{FileId}
use Rattle.jb_disk.specs.Device.{Device, OnlyReads, CountsFaults, TellsAlike}
use Rattle.jb_disk.specs.Files.{Files, file_number}
use Rattle.jb_backup.specs.declared.copier.TheConstants.{PART_BYTES}
use Rattle.jb_backup.specs.declared.error.BackupError.{BackupError}
use Rattle.jb_backup.specs.declared.error.BackupError.TheVariants.{SourceFault, TargetFault, InDoubt, NotEmpty, OutOfMemory}

-- the source failed
abbrev pub is_source_fault : BackupError → Bool
is_source_fault SourceFault = true
is_source_fault TargetFault = false
is_source_fault InDoubt = false
is_source_fault (NotEmpty file) = false
is_source_fault OutOfMemory = false

-- the target failed
abbrev pub is_target_fault : BackupError → Bool
is_target_fault SourceFault = false
is_target_fault TargetFault = true
is_target_fault InDoubt = false
is_target_fault (NotEmpty file) = false
is_target_fault OutOfMemory = false

-- one of the two failed
abbrev pub IsFault : BackupError → Type 0
IsFault SourceFault = Unit {0}
IsFault TargetFault = Unit {0}
IsFault InDoubt = ⊥
IsFault (NotEmpty file) = ⊥
IsFault OutOfMemory = ⊥

-- calls that copy: the source is only read, a refusal is a fault of that disk whose count rose, and of no other, and the target tells as before
pub record AnswersCopy {T : Type 0} (source source_now target target_now : Device) (result : Result T BackupError) : Type 0 where
  pub reads : OnlyReads source source_now
  pub fault : IfErr result IsFault
  pub source_faults : CountsFaults is_source_fault source source_now result
  pub target_faults : CountsFaults is_target_fault target target_now result
  pub alike : TellsAlike target target_now

-- a file that is not empty, behind empty ones alone
pub record IsFirstFull (file : FileId) (files : Files) : Type 0 where
  pub full : files file ≢ []
  pub below : (other : FileId) → file_number other < file_number file → files other ≡ []

-- why a target is not begun: a fault, or the first of its files that is not empty, and then it reads as before
abbrev pub MayRefuse : Device → Device → BackupError → Type 0
MayRefuse old new SourceFault = ⊥
MayRefuse old new TargetFault = Unit {0}
MayRefuse old new InDoubt = ⊥
MayRefuse old new (NotEmpty file) = ForSome old.contents (IsFirstFull file) × (new.contents ≡ old.contents)
MayRefuse old new OutOfMemory = ⊥

-- where the texts end for now: at this end, at their own, or at the ceiling
abbrev pub stop_at : ℕ → List ℕ → ℕ
stop_at end texts = min (min (length texts) end) TEXTS_CEILING

-- one part more is copied, or all that is left up to where the texts end for now, and it is told whether some is left
pub record CopiesSome (end : ℕ) (texts : List ℕ) (old new : ℕ) (more : Bool) : Type 0 where
  pub copied : new ≡ max old (min (old + PART_BYTES) (stop_at end texts))
  pub left : more ≡ nat_lt new (stop_at end texts)
