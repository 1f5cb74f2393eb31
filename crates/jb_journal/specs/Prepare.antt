-- What preparing makes of the journal.
use Rattle.std.specs.Prelude.{◌≡◌, ◌≢◌, ◌⊎◌, ℕ, ◌<◌, ◌≤◌, List, [], ◌∷◌, length, replicate, take}
use Rattle.jb_disk.specs.declared.file.FileId.{FileId}
use Rattle.jb_disk.specs.declared.file.FileId.TheVariants.{Jnl}
use Rattle.jb_disk.specs.Files.{Files}
use Rattle.jb_disk.specs.Images.{Images, just_synced}
use Rattle.jb_disk.specs.declared.version.Version.TheVariants.{One, Two}
use Rattle.jb_disk.specs.Gate.{version_of}
use Rattle.jb_journal.specs.Commit.{AgreeButJournal}

-- the sixteen bytes of head of the second version, with the gate closed
abbrev pub plain_head : List ℕ
plain_head = 0 ∷ 2 ∷ replicate 14 0

-- the journal wants that head: it has the first version, or at most sixteen bytes
abbrev pub WantsHead : Files → Type 0
WantsHead files = (version_of files ≡ One) ⊎ (length (files Jnl) ≤ 16)

-- a journal that wanted its head has become it, another one and the other files are as they were
pub record IsPrepared (before after : Files) : Type 0 where
  pub same : AgreeButJournal after before
  pub kept : version_of before ≡ Two → 16 < length (before Jnl) → after Jnl ≡ before Jnl
  pub made : WantsHead before → after Jnl ≡ plain_head

-- a journal of more than sixteen bytes is being cut to them: it is no longer than it was, and has the head that it had
pub record IsBeingCut (before after : List ℕ) : Type 0 where
  pub longer : 16 < length before
  pub no_longer : length after ≤ length before
  pub head : take 16 after ≡ take 16 before

-- meanwhile the other files are as they were, and the journal too; or it wants its head, and has at most sixteen bytes or is being cut to them
pub record IsPreparing (before files : Files) : Type 0 where
  pub same : AgreeButJournal files before
  pub journal : (files Jnl ≡ before Jnl) ⊎ WantsHead before × ((length (files Jnl) ≤ 16) ⊎ IsBeingCut (before Jnl) (files Jnl))

-- the other files are as they were, and the journal has at most sixteen bytes
pub record IsShort (before files : Files) : Type 0 where
  pub same : AgreeButJournal files before
  pub short : length (files Jnl) ≤ 16

-- but for one file a crash leaves what it might have left before
abbrev pub AgreeBut : FileId → Images → Images → Type 0
AgreeBut file was now = (other : FileId) → other ≢ file → now other ≡ was other

-- of each file a crash leaves now what it might have left before, or just what is read
abbrev pub AddsNoneUnsynced : Files → Images → Images → Type 0
AddsNoneUnsynced read was now = (file : FileId) → (now file ≡ was file) ⊎ (now file ≡ just_synced (read file))

-- so it is of the newest of these moments and of the newest of those, where the disk tells them
abbrev pub FromNewest : (Images → Images → Type 0) → List Images → List Images → Type 0
FromNewest change [] [] = Unit {0}
FromNewest change (was ∷ earlier) (now ∷ since) = change was now
FromNewest change [] (now ∷ since) = ⊥
FromNewest change (was ∷ earlier) [] = ⊥
