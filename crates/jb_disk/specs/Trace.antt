-- What is kept of one file while a list of calls is gone through.
use Rattle.std.specs.Prelude.{◌≡◌, ℕ, ◌<◌, List, ◌∷◌, length, reverse, slice_index}
use Rattle.jb_disk.specs.declared.file.FileId.{FileId}
use Rattle.jb_disk.specs.declared.call.Call.{Call}
use Rattle.jb_disk.specs.declared.trace.Trace.{Trace}
use Rattle.jb_disk.specs.Files.{Files}
use Rattle.jb_disk.specs.Images.{Unsynced, IsWritten}
use Rattle.jb_disk.specs.Memory.{contents_after, images_after}

-- it is kept of this file, which reads so
pub record IsTrace (file : Unsynced) (contents : List ℕ) (trace : Trace) : Type 0 where
  pub synced : trace.synced.items ≡ file.synced
  pub written : trace.written.items ≡ contents
  pub least : length trace.marred.items ≡ file.least
  pub greatest : trace.greatest ≡ file.greatest
  pub spoilt : (i : ℕ) → i < file.least → IsWritten file.ranges i → slice_index trace.marred.items i ≡ 0xA5
  pub kept : (i : ℕ) → i < file.least → (IsWritten file.ranges i → ⊥) → slice_index trace.marred.items i ≡ slice_index file.synced i

-- one call more, whatever came before
abbrev pub FollowsCall : FileId → Call → Trace → Trace → Type 0
FollowsCall file call old new = (first : Files) (earlier : List Call) → IsTrace (images_after first earlier file) (contents_after first earlier file) old
    → IsTrace (images_after first (call ∷ earlier) file) (contents_after first (call ∷ earlier) file) new

-- it is kept of a file that held these bytes at first, after these calls in order
abbrev pub HasFollowed : FileId → List ℕ → List Call → Trace → Type 0
HasFollowed file bytes calls trace = (first : Files) → first file ≡ bytes → IsTrace (images_after first (reverse calls) file) (contents_after first (reverse calls) file) trace
