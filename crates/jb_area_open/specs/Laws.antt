-- What makes the opening complete: what opens is opened.
use Rattle.std.specs.Prelude.{◌≡◌, ℕ, Some}
use Rattle.jb_area_open.specs.Opening.{Refuses}
use Rattle.jb_area_open.specs.declared.error.OpeningError.{OpeningError}
use Rattle.jb_area_open.specs.declared.error.OpeningError.TheVariants.{BadJournal, Base}
use Rattle.jb_disk.specs.Device.{Device}
use Rattle.jb_disk.specs.Files.{Files}
use Rattle.jb_image.specs.Answers.{OpensTo}
use Rattle.jb_image.specs.Laws.{IsNotOfFiles}
use Rattle.jb_journal.specs.Recover.{IsGrowthSafe}
use Rattle.jb_redo.specs.Replay.{Replays}
use Rattle.jb_state.specs.declared.loaded.Loaded.{Loaded}

-- the files replay to those of an area of at most so many slots; a record behind an open gate writes each byte past an old end
pub record OpensWithin (limit : ℕ) (was : Files) : Type 0 where
  pub after : Files
  pub replays : Replays was after
  pub loaded : Loaded
  pub opens : OpensTo limit after loaded
  pub safe : IsGrowthSafe was

-- a fault of the disk or want of memory, of which neither the journal nor the files say anything
abbrev pub IsNotOfBase : OpeningError → Type 0
IsNotOfBase (BadJournal at) = ⊥
IsNotOfBase (Base error) = IsNotOfFiles error

-- a base that opens is refused for nothing that it holds
abbrev pub RefusesNothingThatOpens : Type 0
RefusesNothingThatOpens = (limit : ℕ) (before after : Device) (was : Files) (error : OpeningError) → before.contents ≡ Some was → OpensWithin limit was
    → Refuses limit before after error → IsNotOfBase error
