-- The moment at which the gate has come to stand open.
use Rattle.std.specs.Prelude.{◌≡◌, List, [], ◌∷◌, ◌++◌, Result, Ok, Err}
use Rattle.jb_disk.specs.Files.{Files}
use Rattle.jb_disk.specs.Images.{Images, IsImage}
use Rattle.jb_disk.specs.Moments.{AtEach}
use Rattle.jb_disk.specs.Runs.{Leaves, LeavesAlways}
use Rattle.jb_disk.specs.Gate.{IsGateOpen}
use Rattle.jb_journal.specs.declared.stopped.Stopped.{Stopped}
use Rattle.jb_journal.specs.declared.stopped.Stopped.TheVariants.{Early, Late}

-- a crash at this moment may leave the gate closed
pub record MayBeShut (images : Images) : Type 0 where
  pub files : Files
  pub image : IsImage images files
  pub shut : IsGateOpen files → ⊥

-- moments have come, and at each of them a crash may leave the gate closed
pub record StaysShut (old new : List Images) : Type 0 where
  pub until : List Images
  pub all : new ≡ until ++ old
  pub shut : AtEach MayBeShut until

-- the gate has come to stand open in the newest moment, and not before
pub record OpensNow (property : Files → Type 0) (old new : List Images) : Type 0 where
  pub until : List Images
  pub opening : Images
  pub all : new ≡ opening ∷ (until ++ old)
  pub shut : AtEach MayBeShut until
  pub is_open : Leaves IsGateOpen opening
  pub at_once : Leaves property opening

-- the gate has come to stand open: at first a crash may leave the gate closed, then at one it leaves it open, and from that one on it leaves only files with this property
pub record OpensGate (property : Files → Type 0) (old new : List Images) : Type 0 where
  pub until : List Images
  pub opening : Images
  pub since : List Images
  pub all : new ≡ since ++ (opening ∷ (until ++ old))
  pub shut : AtEach MayBeShut until
  pub is_open : Leaves IsGateOpen opening
  pub at_once : Leaves property opening
  pub only : LeavesAlways property since

-- where the disk tells images
abbrev pub WhereTold : List Images → Type 0 → Type 0
WhereTold [] claim = Unit {0}
WhereTold (now ∷ earlier) claim = claim

-- a commit that was done or stopped late has opened the gate for good, and one that was stopped early has not
abbrev pub OpensGateFor : {T : Type 0} → Result T Stopped → (Files → Type 0) → List Images → List Images → Type 0
OpensGateFor (Ok value) property old new = OpensGate property old new
OpensGateFor (Err Late) property old new = OpensGate property old new
OpensGateFor (Err Early) property old new = StaysShut old new

-- the first two stages open the gate in their last moment, or not at all
abbrev pub OpensNowFor : {T E : Type 0} → Result T E → (Files → Type 0) → List Images → List Images → Type 0
OpensNowFor (Ok value) property old new = OpensNow property old new
OpensNowFor (Err error) property old new = StaysShut old new
