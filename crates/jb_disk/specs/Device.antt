-- What is known of a disk before and after a call.
use Rattle.std.specs.Prelude.{◌≡◌, ◌≢◌, ◌⊎◌, ℕ, ◌<◌, ◌≤◌, List, [], ◌∷◌, length, is_some, Bool, true, false, Option, Some, None, Result, IsErr, IfErr, OnOk, OnErr}
use Rattle.std.specs.Option.{ForSome}
use Rattle.jb_bytes.specs.Fault.{Rose}
use Rattle.jb_disk.specs.declared.file.FileId.{FileId}
use Rattle.jb_disk.specs.Files.{Files, InFile, IsResized}
use Rattle.jb_disk.specs.Images.{Images, IsImage, just_synced, torn, cut, with_image}
use Rattle.jb_disk.specs.Moments.{AtEach, IsPossible}

-- a disk, as its user sees it
pub record Device : Type 0 where
  -- how often it has failed
  pub faults : ℕ
  -- what a read gives, where the disk tells it
  pub contents : Option Files
  -- what a crash may leave now, and before that at each moment so far, the newest first; empty where the disk does not tell
  pub moments : List Images

-- the files are as before, and so is what a crash may leave
pub record OnlyReads (old new : Device) : Type 0 where
  pub contents : new.contents ≡ old.contents
  pub moments : new.moments ≡ old.moments

-- a moment more, where the disk tells them
abbrev pub and_then : (Images → Images) → List Images → List Images
and_then change [] = []
and_then change (now ∷ earlier) = change now ∷ now ∷ earlier

-- a call that was tried: a crash may leave what it might leave before, or what this change of it allows
abbrev pub MayChange : (Images → Images) → List Images → List Images → Type 0
MayChange change old new = (new ≡ old) ⊎ (new ≡ and_then change old)

-- what the disk tells before and after, where it tells
abbrev pub Turns : (Files → Files → Type 0) → Option Files → Option Files → Type 0
Turns change None None = Unit {0}
Turns change (Some old) (Some new) = change old new
Turns change None (Some new) = ⊥
Turns change (Some old) None = ⊥

-- a call for one file: the others read as before, and where it was not done and no images are told, all does
pub record TriesOn {T E : Type 0} (file : FileId) (old new : Device) (result : Result T E) : Type 0 where
  pub others : Turns (λ before now. (other : FileId) → other ≢ file → now other ≡ before other) old.contents new.contents
  pub steady : OnErr result (old.moments ≡ [] → new.contents ≡ old.contents)

-- a write that was tried: a crash may leave what it might before, or any bytes in the range
pub record Tears {T E : Type 0} (file : FileId) (at len : ℕ) (old new : Device) (result : Result T E) : Type 0 where
  pub tried : TriesOn file old new result
  pub moments : MayChange (with_image file (torn at len)) old.moments new.moments

-- a change of length that was tried, and what it made where it was done
pub record Resizes {T E : Type 0} (file : FileId) (len : ℕ) (old new : Device) (result : Result T E) : Type 0 where
  pub done : OnOk result (Turns (InFile file (IsResized len)) old.contents new.contents)
  pub tried : TriesOn file old new result
  pub moments : MayChange (with_image file (cut len)) old.moments new.moments

-- a sync: where it is done, all reads as before, and a crash leaves of this file what a read gives
pub record Syncs {T E : Type 0} (file : FileId) (old new : Device) (result : Result T E) : Type 0 where
  pub kept : OnOk result (new.contents ≡ old.contents)
  pub done : OnOk result (ForSome old.contents (λ files. new.moments ≡ and_then (with_image file (λ _. just_synced (files file))) old.moments))
  pub tried : TriesOn file old new result
  pub failed : OnErr result (new.moments ≡ old.moments)

-- a range up to this place passes the file's end, on a disk that tells
abbrev pub IsPast : Option Files → FileId → ℕ → Type 0
IsPast None file end = ⊥
IsPast (Some files) file end = length (files file) < end

-- a disk that tells its contents goes on telling them, and one that tells nothing goes on telling nothing
abbrev pub TellsAlike : Device → Device → Type 0
TellsAlike old new = is_some new.contents ≡ is_some old.contents

-- what becomes of the count of faults where a call is refused: a fault of the disk raises it, and no other refusal does
abbrev pub RoseIf : Bool → ℕ → ℕ → Type 0
RoseIf true before now = Rose before now
RoseIf false before now = now ≡ before

-- each refusal is a fault, where it is by the disk alone
abbrev pub is_disk_fault : {E : Type 0} → E → Bool
is_disk_fault error = true

-- calls of a disk, and what its count of faults tells of them: it stays where they are done, never falls, and rises exactly where the refusal is a fault
pub record CountsFaults {T E : Type 0} (is_fault : E → Bool) (old new : Device) (result : Result T E) : Type 0 where
  pub quiet : OnOk result (new.faults ≡ old.faults)
  pub later : old.faults ≤ new.faults
  pub cause : IfErr result (λ error. RoseIf (is_fault error) old.faults new.faults)

-- a call that is done raises no count; a refusal has a cause: the count rose, or the range passed the file's end, which raises no count; and the disk tells as before
pub record FailsBy {T E : Type 0} (past : Type 0) (old new : Device) (result : Result T E) : Type 0 where
  pub kept : OnOk result (new.faults ≡ old.faults)
  pub later : old.faults ≤ new.faults
  pub failed : OnErr result (Rose old.faults new.faults ⊎ past)
  pub refused : past → IsErr result × (new.faults ≡ old.faults)
  pub alike : TellsAlike old new

-- what a read gives now is one of the images, a disk that tells images tells its contents, and each moment has an image
pub record TellsAnImage (disk : Device) : Type 0 where
  pub read : (files : Files) (now : Images) (earlier : List Images) → disk.contents ≡ Some files → disk.moments ≡ now ∷ earlier → IsImage now files
  pub both : disk.contents ≡ None → disk.moments ≡ []
  pub each : AtEach IsPossible disk.moments

-- a call that was refused, after which all reads as before
pub record IsRefused {T E : Type 0} (old new : Device) (result : Result T E) : Type 0 where
  pub refused : IsErr result
  pub contents : new.contents ≡ old.contents
