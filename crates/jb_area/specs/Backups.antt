-- Backups of an open area: what a crash may leave of one, to what it opens, and what stays of the area while its files are read.
use Rattle.std.specs.Prelude.{◌≡◌, ◌⊎◌, ℕ, ◌≤◌, List, [], Option, length, min, refl}
use Rattle.std.proofs.Common.{ap, ◌∙◌}
use Rattle.jb_backup.specs.Target.{IsRefusedBase, backed_up}
use Rattle.jb_decide.specs.Coming.{Coming}
use Rattle.jb_decide.specs.Holds.{Holds}
use Rattle.jb_disk.specs.Device.{Device, OnlyReads}
use Rattle.jb_disk.specs.Files.{Files}
use Rattle.jb_disk.specs.declared.file.FileId.TheVariants.{Jnl}
use Rattle.jb_limits.specs.declared.limits.TheConstants.{HEADERS_CEILING, MOST_SLOTS, TEXTS_CEILING}
use Rattle.jb_model.specs.declared.reply.Reply.{Reply}
use Rattle.jb_state.specs.State.{AreaState, state_of}
use Rattle.jb_state.specs.declared.loaded.Loaded.{Loaded}
use Rattle.jb_area.specs.Area.{commits_of, copied_of, loaded_of, packs_of, packs_to, rules_of, small_redo_of, stopped_of, IsBegun, IsDoubtful, IsResting}
use Rattle.jb_area.specs.Holds.{Opens}
use Rattle.jb_area.specs.declared.area.OpenArea.{OpenArea}

-- the state with the lengths that .JHR and .JDT have in a backup: of a longer file all is copied up to its ceiling
abbrev pub capped_state : AreaState → AreaState
capped_state state = record state { headers_len = min state.headers_len HEADERS_CEILING; texts_len = min state.texts_len TEXTS_CEILING }

-- the files open to this state, and have no journal
pub record OpensToState (state : AreaState) (files : Files) : Type 0 where
  pub journal : files Jnl ≡ []
  pub loaded : Loaded
  pub texts : List ℕ
  pub opens : Opens loaded texts files
  pub same : state ≡ state_of texts loaded

-- a backup of this state: refused for its headers or their signature, or it opens to the state
abbrev pub IsBackup : AreaState → Files → Type 0
IsBackup state files = IsRefusedBase files ⊎ OpensToState (capped_state state) files

-- what is backed up of files that hold an area opens to its state
abbrev pub BackupsOpen : Type 0
BackupsOpen = (loaded : Loaded) (texts : List ℕ) (files : Files) → Holds loaded texts files → length loaded.slots ≤ MOST_SLOTS
    → OpensToState (capped_state (state_of texts loaded)) (backed_up files)

module _ {D : Type 0} where
  -- the area is as it was, but for its disk
  abbrev pub IsSameButDisk : OpenArea D → OpenArea D → Type 0
  IsSameButDisk old new = new ≡ record old { disk = new.disk }

  -- an area that is left alone is so
  pub same_but_disk : (area : OpenArea D) → IsSameButDisk area area
  same_but_disk area = refl

  -- and so is one that went so in two parts
  pub same_on : (first middle last : OpenArea D) → IsSameButDisk first middle → IsSameButDisk middle last → IsSameButDisk first last
  same_on first middle last one two = two ∙ ap (λ (area : OpenArea D). record area { disk = last.disk }) one

-- of a disk that shows itself so
module _ {D : Type 0} (shown : D → Device) where
  -- all that callers are told of the area is told of it still: at rest, with a call begun or in doubt, by the same texts and with
  -- the same to come
  pub record StandsAsBefore (old new : OpenArea D) : Type 0 where
    pub rests : (texts : List ℕ) → IsResting shown old texts → IsResting shown new texts
    pub begun : (texts : List ℕ) (reply : Reply) (coming : Coming) → IsBegun shown old texts reply coming → IsBegun shown new texts reply coming
    pub doubt : (texts : List ℕ) (coming : Option Coming) → IsDoubtful shown old texts coming → IsDoubtful shown new texts coming
    pub loaded : loaded_of new ≡ loaded_of old
    pub rules : rules_of new ≡ rules_of old
    pub commits : commits_of new ≡ commits_of old
    pub packs : packs_of new ≡ packs_of old
    pub packs_to : packs_to new ≡ packs_to old
    pub copies : copied_of new ≡ copied_of old
    pub stopped : stopped_of new ≡ stopped_of old
    pub room : small_redo_of new ≡ small_redo_of old

  -- an area of which nothing changed but that its disk was read stands as before
  abbrev pub ReadingsKeepAreas : Type 0
  ReadingsKeepAreas = (old new : OpenArea D) → IsSameButDisk old new → OnlyReads (shown old.disk) (shown new.disk) → StandsAsBefore old new
