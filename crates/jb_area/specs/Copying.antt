-- Texts of an area that are copied for a pack.
use Rattle.std.specs.Prelude.{◌≡◌, ℕ, Bool, nat_lt, List, Option, None, Some, Result, Ok, Err}
use Rattle.jb_state.specs.declared.loaded.LoadedSlot.{LoadedSlot}
use Rattle.jb_pack.specs.Advance.{Copies}
use Rattle.jb_pack.specs.Shadow.{Shadow, left, nothing_copied}
use Rattle.jb_pack.specs.declared.error.PackError.{PackError}
use Rattle.jb_pack.specs.declared.error.PackError.TheVariants.{OutOfMemory, StoreFault}

-- the copies that a copying goes on from: those that are kept, or none, with an empty .NDT
abbrev pub begun_of : Option Shadow → Shadow
begun_of None = nothing_copied
begun_of (Some shadow) = shadow

-- of these slots some texts are copied beside those that were, and it is said whether one is left
pub record HasCopiedSome (budget : ℕ) (slots : List LoadedSlot) (old new : Option Shadow) (more : Bool) : Type 0 where
  pub shadow : Shadow
  pub kept : new ≡ Some shadow
  pub copies : Copies budget slots (begun_of old) shadow
  pub says : more ≡ nat_lt 0 (left shadow slots)

-- no text of these slots is left to copy
pub record AreAllCopied (slots : List LoadedSlot) (copies : Option Shadow) : Type 0 where
  pub shadow : Shadow
  pub kept : copies ≡ Some shadow
  pub none : left shadow slots ≡ 0

-- so it is, but after a fault of the device
abbrev pub UnlessFault : {T : Type 0} → Result T PackError → Type 0 → Type 0
UnlessFault (Ok value) claim = claim
UnlessFault (Err StoreFault) claim = Unit {0}
UnlessFault (Err OutOfMemory) claim = claim
