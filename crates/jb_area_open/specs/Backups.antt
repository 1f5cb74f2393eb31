-- What the opening makes of a backup, and of one that is not done.
use Rattle.std.specs.Prelude.{◌≡◌, ℕ, ◌≤◌, List, length, Some}
use Rattle.jb_area.specs.Backups.{OpensToState}
use Rattle.jb_area.specs.Holds.{Opens}
use Rattle.jb_area_open.specs.Laws.{OpensWithin}
use Rattle.jb_area_open.specs.Opening.{Refuses}
use Rattle.jb_area_open.specs.declared.error.OpeningError.{OpeningError}
use Rattle.jb_area_open.specs.declared.error.OpeningError.TheVariants.{BadJournal, Base}
use Rattle.jb_backup.specs.Target.{IsRefusedBase}
use Rattle.jb_disk.specs.Device.{Device}
use Rattle.jb_disk.specs.Files.{Files}
use Rattle.jb_image.specs.declared.error.OpenError.TheVariants.{ShortHeader, BadSignature, StoreFault, OutOfMemory}
use Rattle.jb_journal.specs.Recover.{IsGrowthSafe}
use Rattle.jb_state.specs.State.{AreaState, state_of}
use Rattle.jb_state.specs.declared.loaded.Loaded.{Loaded}

-- the headers are too short or not signed; or a fault or want of memory came first, which say nothing of the files
abbrev pub IsUnopened : OpeningError → Type 0
IsUnopened (BadJournal at) = ⊥
IsUnopened (Base ShortHeader) = Unit {0}
IsUnopened (Base BadSignature) = Unit {0}
IsUnopened (Base StoreFault) = Unit {0}
IsUnopened (Base OutOfMemory) = Unit {0}
IsUnopened (Base _) = ⊥

-- the files open to no area, and opening them is refused for their headers or the signature alone
pub record IsNoArea (was : Files) : Type 0 where
  pub safe : IsGrowthSafe was
  pub closed : (loaded : Loaded) (texts : List ℕ) → Opens loaded texts was → ⊥
  pub refused : (limit : ℕ) (before after : Device) (error : OpeningError) → before.contents ≡ Some was → Refuses limit before after error → IsUnopened error

-- so it is with a backup that is not signed
abbrev pub UnsignedBasesAreRefused : Type 0
UnsignedBasesAreRefused = (was : Files) → IsRefusedBase was → IsNoArea was

-- and one that opens to a state of at most so many slots is opened
abbrev pub BackupsAreOpened : Type 0
BackupsAreOpened = (limit : ℕ) (state : AreaState) (files : Files) → OpensToState state files → length state.slots ≤ limit → OpensWithin limit files

-- whatever area it opens to has that state
abbrev pub BackupsHaveOneState : Type 0
BackupsHaveOneState = (state : AreaState) (files : Files) → OpensToState state files → (loaded : Loaded) (texts : List ℕ) → Opens loaded texts files → state_of texts loaded ≡ state
