-- What the opening of an area makes of its files, and why it is refused.
use Rattle.std.specs.Prelude.{◌≢◌, ◌↔◌, ℕ, List, IsSome, Result, Ok, Err, Bool, false}
use Rattle.std.specs.Option.{ForSome}
use Rattle.jb_area.specs.Area.{IsResting, loaded_of}
use Rattle.jb_area.specs.Holds.{Opens}
use Rattle.jb_area.specs.declared.area.OpenArea.{OpenArea}
use Rattle.jb_area_open.specs.declared.error.OpeningError.{OpeningError}
use Rattle.jb_area_open.specs.declared.error.OpeningError.TheVariants.{BadJournal, Base}
use Rattle.jb_disk.specs.Device.{Device}
use Rattle.jb_disk.specs.Files.{Files}
use Rattle.jb_disk.specs.Gate.{IsGateOpen}
use Rattle.jb_disk.specs.Images.{Images}
use Rattle.jb_disk.specs.Runs.{IsAllSynced, LeavesOnly}
use Rattle.jb_image.specs.Answers.{IsRefusedBy, is_open_fault}
use Rattle.jb_image.specs.declared.error.OpenError.{OpenError}
use Rattle.jb_image.specs.declared.error.OpenError.TheVariants.{StoreFault}
use Rattle.jb_journal.specs.Commit.{ReplaysTo}
use Rattle.jb_journal.specs.Recover.{FirmSince, IsGrowthSafe, IsRefusedOver, MightBe}
use Rattle.jb_journal.specs.declared.error.JournalError.{JournalError}
use Rattle.jb_journal.specs.declared.error.JournalError.TheVariants.{BadRecord, StoreFault as JournalFault}
use Rattle.jb_state.specs.declared.loaded.Loaded.{Loaded}
use Rattle.jb_redo.specs.Reading.{HasRecord}

-- behind an open gate stood a record, and the files are those to which it replays but for the journal, where it writes each byte past an old end; in any case they are told still, the gate is closed, and nothing is unsynced
pub record IsRecovered (was : Files) (after : Device) : Type 0 where
  pub record_found : IsGateOpen was → HasRecord was
  pub replayed : IsGrowthSafe was → ForSome after.contents (λ now. ReplaysTo now was)
  pub told : IsSome after.contents
  pub shut : ForSome after.contents (λ now. IsGateOpen now → ⊥)
  pub synced : IsAllSynced after

-- of a disk that shows itself so
module _ {D : Type 0} (shown : D → Device) where
  -- the area is open at just what the files open to
  pub record IsOpenAt (was : Files) (area : OpenArea D) : Type 0 where
    pub texts : List ℕ
    pub opens : Opens (loaded_of area) texts was
    pub rests : IsResting shown area texts

  -- the disk as it is then, in the area or handed back
  abbrev pub opened_device : Result (OpenArea D) (D × OpeningError) → Device
  opened_device (Ok area) = shown area.disk
  opened_device (Err back) = shown back.0

-- the base was recovered, and then its files were refused for this
pub record RefusesFiles (limit : ℕ) (before after : Device) (error : OpenError) : Type 0 where
  pub recovered : ForSome before.contents (λ was. IsRecovered was after)
  pub refused : ForSome after.contents (λ files. IsRefusedBy limit files error)

-- why no area of at most so many slots is opened: the journal's record stops here, and nothing was written; or the recovered files are refused; a fault says nothing of them
abbrev pub Refuses : ℕ → Device → Device → OpeningError → Type 0
Refuses limit before after (BadJournal at) = ForSome before.contents (IsRefusedOver (BadRecord at) after)
Refuses limit before after (Base error) = error ≢ StoreFault → RefusesFiles limit before after error

-- which refusals are faults of the disk
abbrev pub is_opening_fault : OpeningError → Bool
is_opening_fault (BadJournal at) = false
is_opening_fault (Base error) = is_open_fault error

-- a refusal of recovery, as one of the opening
abbrev pub of_journal : JournalError → OpeningError
of_journal (BadRecord at) = BadJournal at
of_journal JournalFault = Base StoreFault

-- the one files open to exactly what the others do
abbrev pub OpensAs : Files → Files → Type 0
OpensAs was files = (loaded : Loaded) (texts : List ℕ) → Opens loaded texts was ↔ Opens loaded texts files

-- the files open to exactly what some files open to that a crash might have left at the start
pub record OpensAsAtStart (first : List Images) (files : Files) : Type 0 where
  pub was : Files
  pub might : MightBe first was
  pub same : OpensAs was files

-- a crash at any moment leaves such files, where the record behind an open gate writes each byte past an old end
abbrev pub KeepsOpening : Device → Device → Type 0
KeepsOpening before after = ForSome before.contents (λ was. IsGrowthSafe was → LeavesOnly before after (OpensAsAtStart before.moments))

-- and once the first syncs are done, files that open to exactly what those do that were read at the start
abbrev pub OpensFirmly : Device → Device → Type 0
OpensFirmly before after = ForSome before.contents (λ was. IsGrowthSafe was → FirmSince (OpensAs was) before.moments after.moments)
