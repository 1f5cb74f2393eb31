-- A change that is committed over the files of an area, and one that was stopped; and a copying of its texts that was stopped.
use Rattle.std.specs.Prelude.{◌≡◌, ℕ, ◌+◌, ◌^◌, ◌<◌, Bool, true, false, List, Option, min}
use Rattle.std.specs.Option.{ForSome}
use Rattle.jb_decide.specs.Coming.{Coming, IsChange}
use Rattle.jb_decide.specs.Holds.{HoldsCopies}
use Rattle.jb_disk.specs.RedoView.{RedoView}
use Rattle.jb_disk.specs.Device.{Device}
use Rattle.jb_disk.specs.Files.{Files}
use Rattle.jb_disk.specs.Gate.{IsGateOpen}
use Rattle.jb_disk.specs.Runs.{IsAllSynced, LeavesNow, LeavesOnly, Shows}
use Rattle.jb_disk.specs.declared.version.Version.TheVariants.{Two}
use Rattle.jb_journal.specs.Doubt.{HasTriedToSync, IsInDoubt}
use Rattle.jb_journal.specs.Opening.{StaysShut, WhereTold}
use Rattle.jb_journal.specs.declared.stopped.Stopped.{Stopped}
use Rattle.jb_journal.specs.declared.stopped.Stopped.TheVariants.{Early, Late}
use Rattle.jb_state.specs.declared.loaded.Loaded.{Loaded}
use Rattle.jb_pack.specs.Shadow.{Shadow}
use Rattle.jb_pack.specs.Touching.{AgreeButShadow}
use Rattle.jb_redo.specs.Reading.{BeginsWith, record_part}
use Rattle.jb_redo.specs.Record.{record_bytes, record_head}
use Rattle.jb_state.specs.declared.change.Change.{Change}
use Rattle.jb_state.specs.declared.change.Change.TheVariants.{Nothing, Packed}
use Rattle.jb_area.specs.Holds.{IsAtRest, Opens}

-- the files hold this area and these texts, nothing is on its way, and a crash now leaves them so
pub record IsSettledAs (loaded : Loaded) (texts : List ℕ) (device : Device) : Type 0 where
  pub rests : ForSome device.contents (IsAtRest loaded texts)
  pub synced : IsAllSynced device

-- and they have these copies of the texts
pub record IsSettledWith (loaded : Loaded) (texts : List ℕ) (copies : Option Shadow) (device : Device) : Type 0 where
  pub settled : IsSettledAs loaded texts device
  pub has : ForSome device.contents (HoldsCopies copies)

-- behind its head the journal is the record of this redo with this number, and no more
abbrev pub IsRecorded : ℕ → RedoView → Files → Type 0
IsRecorded number redo files = record_part files ≡ record_bytes Two number redo.lengths redo.pieces

-- the record in the journal says this number
abbrev pub IsNumbered : ℕ → Files → Type 0
IsNumbered number files = BeginsWith (record_part files) (record_head Two number)

-- the number of the commit behind that of this number: the next one, but the greatest stays
abbrev pub next_commit : ℕ → ℕ
next_commit number = min (number + 1) 18446744073709551615

-- the last number that a count of packs comes to, which stands for all more
abbrev pub last_count : ℕ
last_count = 18446744073709551615

-- the count of packs, once this change stands
abbrev pub packs_with : Change → ℕ → ℕ
packs_with (Packed plan base) packs = min (packs + 1) last_count
packs_with _ packs = packs

-- a change that is done is the next commit, and its record says so; where there is none, nothing is committed
abbrev pub IsCounted : Change → ℕ → ℕ → Option Files → Type 0
IsCounted Nothing was now contents = now ≡ was
IsCounted _ was now contents = (now ≡ next_commit was) × ForSome contents (IsNumbered now)

-- a commit of this redo, with some number, over files that held this area, and these copies of its texts, was stopped here
pub record IsStopped (stopped : Stopped) (redo : RedoView) (from : Loaded) (texts : List ℕ) (copies : Option Shadow) (device : Device) : Type 0 where
  pub number : ℕ
  pub numbered : number < 2 ^ 64
  pub start : Files
  pub rests : IsAtRest from texts start
  pub has : HoldsCopies copies start
  pub shows : Shows (IsInDoubt stopped number redo start) device

-- the same, where the disk tells
abbrev pub IsStoppedAs : Stopped → RedoView → Loaded → List ℕ → Option Shadow → Device → Type 0
IsStoppedAs stopped redo from texts copies device = ForSome device.contents (λ files. IsStopped stopped redo from texts copies device)

-- settled as the answer says: with the change, or without it
abbrev pub IsAnsweredAs : Bool → Loaded → List ℕ → Coming → Device → Type 0
IsAnsweredAs false from texts coming device = IsSettledAs from texts device
IsAnsweredAs true from texts coming device = IsSettledAs coming.to coming.texts device

-- after a late stop what is read, and what a crash now leaves, opens to the area to come alone
abbrev pub StandsLate : Stopped → Coming → Device → Type 0
StandsLate Early coming device = Unit {0}
StandsLate Late coming device = ForSome device.contents (λ files. Shows (Opens coming.to coming.texts) device)

-- and so does what a crash leaves from one device to the next
abbrev pub StandsFirm : Stopped → Coming → Device → Device → Type 0
StandsFirm Early coming old new = Unit {0}
StandsFirm Late coming old new = ForSome old.contents (λ files. LeavesOnly old new (Opens coming.to coming.texts))

-- after an early stop a crash at each moment from one device to the next may leave the gate closed, where the disk tells images
abbrev pub StaysShutEarly : Stopped → Device → Device → Type 0
StaysShutEarly Early old new = ForSome old.contents (λ files. WhereTold old.moments (StaysShut old.moments new.moments))
StaysShutEarly Late old new = Unit {0}

-- a settling of what was stopped is stopped again: late stays late, and early becomes late by an open gate alone; by one it does, but for a stop that comes before the gate is read
pub record StopsAgain (stopped again : Stopped) (old new : Device) : Type 0 where
  pub late_stays : stopped ≡ Late → again ≡ Late
  pub late_by : stopped ≡ Early → again ≡ Late → ForSome old.contents IsGateOpen
  pub early_by : again ≡ Early → HasTriedToSync old new

-- the change may be committed
pub record MayCommit (redo : RedoView) (device : Device) : Type 0 where
  pub from : Loaded
  pub texts : List ℕ
  pub copies : Option Shadow
  pub coming : Coming
  pub settled : IsSettledWith from texts copies device
  pub change : IsChange device.contents redo from texts copies coming

-- a commit of it may be settled
pub record MaySettle (stopped : Stopped) (redo : RedoView) (device : Device) : Type 0 where
  pub from : Loaded
  pub texts : List ℕ
  pub copies : Option Shadow
  pub coming : Coming
  pub doubt : IsStoppedAs stopped redo from texts copies device
  pub change : IsChange device.contents redo from texts copies coming

-- but for .NDT nothing is unsynced
abbrev pub IsSyncedButShadow : Device → Type 0
IsSyncedButShadow device = ForSome device.contents (λ files. LeavesNow (AgreeButShadow files) device.moments)

-- the files hold this area and these texts, and nothing is on its way but a copying of texts into .NDT
pub record IsCopyingAs (loaded : Loaded) (texts : List ℕ) (device : Device) : Type 0 where
  pub rests : ForSome device.contents (IsAtRest loaded texts)
  pub synced : IsSyncedButShadow device
