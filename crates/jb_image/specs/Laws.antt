-- What makes the answers of the opening the only ones.
use Rattle.std.specs.Prelude.{◌≡◌, ℕ}
use Rattle.jb_disk.specs.Files.{Files}
use Rattle.jb_state.specs.State.{AreaState}
use Rattle.jb_state.specs.declared.loaded.Loaded.{Loaded}
use Rattle.jb_image.specs.declared.error.OpenError.{OpenError}
use Rattle.jb_image.specs.declared.error.OpenError.TheVariants.{StoreFault, OutOfMemory}
use Rattle.jb_image.specs.Answers.{IsRefusedBy, OpensTo}
use Rattle.jb_image.specs.Stands.{StandsFor}

-- files stand for at most one state
abbrev pub HasOneStateAtMost : Type 0
HasOneStateAtMost = (limit : ℕ) (files : Files) (one other : AreaState) → StandsFor limit files one → StandsFor limit files other → one ≡ other

-- a fault or want of memory, of which the files say nothing
abbrev pub IsNotOfFiles : OpenError → Type 0
IsNotOfFiles StoreFault = Unit {0}
IsNotOfFiles OutOfMemory = Unit {0}
IsNotOfFiles _ = ⊥

-- files that open to an area are not refused for what they hold
abbrev pub IsNotRefusedWhereOpen : Type 0
IsNotRefusedWhereOpen = (limit : ℕ) (files : Files) (loaded : Loaded) (error : OpenError) → OpensTo limit files loaded → IsRefusedBy limit files error
    → IsNotOfFiles error

-- files are refused for one thing at most
abbrev pub IsRefusedOnceAtMost : Type 0
IsRefusedOnceAtMost = (limit : ℕ) (files : Files) (one other : OpenError) → IsRefusedBy limit files one → IsRefusedBy limit files other
    → (IsNotOfFiles one → ⊥) → (IsNotOfFiles other → ⊥) → one ≡ other
