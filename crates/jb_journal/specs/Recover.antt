-- What opening makes of the files that a crash has left.
use Rattle.std.specs.Prelude.{◌≡◌, ◌↔◌, ◌<◌, List, [], ◌∷◌, ◌++◌, length, Some, Bool, true, false}
use Rattle.jb_disk.specs.declared.piece.Length.{Length}
use Rattle.jb_disk.specs.declared.piece.Piece.{Piece}
use Rattle.jb_disk.specs.Device.{Device}
use Rattle.jb_disk.specs.Files.{Files}
use Rattle.jb_disk.specs.Images.{Images, IsImage}
use Rattle.jb_disk.specs.Runs.{LeavesNow, LeavesAlways}
use Rattle.jb_redo.specs.declared.error.RecordError.{RecordError}
use Rattle.jb_redo.specs.declared.error.RecordError.TheVariants.{Bad, StoreFault as record_fault}
use Rattle.jb_disk.specs.Gate.{IsGateOpen, version_number, version_of}
use Rattle.jb_redo.specs.Reading.{IsRecordOf, HasRecord, IsBadAt}
use Rattle.jb_redo.specs.Replay.{IsGrowthCovered}
use Rattle.jb_journal.specs.declared.error.JournalError.{JournalError}
use Rattle.jb_journal.specs.declared.error.JournalError.TheVariants.{BadRecord, StoreFault}
use Rattle.jb_journal.specs.declared.error.Recovered.{Recovered}
use Rattle.jb_journal.specs.declared.error.Recovered.TheVariants.{Closed, Replayed}
use Rattle.jb_journal.specs.Commit.{ReplaysTo}

-- a refusal of the record, as one of the journal
abbrev pub error_of : RecordError → JournalError
error_of (Bad at) = BadRecord at
error_of record_fault = StoreFault

-- the answer says how the gate was, and behind an open one of which version the journal was and which number its record had
abbrev pub IsFound : Recovered → Files → Type 0
IsFound Closed files = IsGateOpen files → ⊥
IsFound (Replayed version change) files = IsGateOpen files × (version ≡ version_number (version_of files)) × ((has : HasRecord files) × (has.is.change ≡ change))

-- behind an open gate, the record writes each byte past an old end, as a commit's does
abbrev pub IsGrowthSafe : Files → Type 0
IsGrowthSafe files = IsGateOpen files → (lengths : List Length) (pieces : List Piece) → IsRecordOf files lengths pieces → IsGrowthCovered lengths pieces files

-- a refusal for the record has the place, and all is as it was, and synced; one for a fault says nothing of the files
abbrev pub IsRefusedOver : JournalError → Device → Files → Type 0
IsRefusedOver (BadRecord at) device was = IsGateOpen was × IsBadAt was at × (device.contents ≡ Some was) × LeavesNow (λ left. left ≡ was) device.moments
IsRefusedOver StoreFault device was = Unit {0}

-- which refusals are faults of the disk
abbrev pub is_journal_fault : JournalError → Bool
is_journal_fault (BadRecord at) = false
is_journal_fault StoreFault = true

-- the one files replay to exactly what the others do
abbrev pub ReplaysAs : Files → Files → Type 0
ReplaysAs was files = (base : Files) → ReplaysTo base was ↔ ReplaysTo base files

-- a crash might leave these files now, where that is told
abbrev pub MightBe : List Images → Files → Type 0
MightBe [] files = Unit {0}
MightBe (now ∷ earlier) files = IsImage now files

-- the files replay to exactly what some files replay to that a crash might have left at the start
pub record ReplaysAsAtStart (first : List Images) (files : Files) : Type 0 where
  pub was : Files
  pub might : MightBe first was
  pub same : ReplaysAs was files

-- moments have come: first those of the first syncs, fewer than there are files, and from the last file's sync on those at each of which a crash leaves only files with this property
pub record FirmSince (property : Files → Type 0) (old new : List Images) : Type 0 where
  pub syncing : List Images
  pub firm : List Images
  pub since : new ≡ firm ++ (syncing ++ old)
  pub few : length syncing < 6
  pub only : LeavesAlways property firm
