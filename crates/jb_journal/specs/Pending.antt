-- Bytes on their way into a file.
use Rattle.std.specs.Prelude.{◌≡◌, ℕ, ◌+◌, ◌≤◌, List, [], length, Option, Result, OnOk}
use Rattle.std.specs.Option.{option_map}
use Rattle.jb_disk.specs.declared.file.FileId.{FileId}
use Rattle.jb_disk.specs.declared.file.FileId.TheVariants.{Jnl}
use Rattle.jb_disk.specs.declared.piece.Length.{Length}
use Rattle.jb_disk.specs.declared.piece.Piece.{Piece}
use Rattle.jb_disk.specs.Device.{Device, FailsBy}
use Rattle.jb_disk.specs.Files.{Files, written}
use Rattle.jb_disk.specs.Runs.{Keeps}
use Rattle.jb_redo.specs.OnTheWay.{IsOnTheWay}
use Rattle.jb_journal.specs.Coming.{ComeBy}
use Rattle.jb_journal.specs.Filing.{IsWrittenBy}
use Rattle.jb_journal.specs.Stages.{KeepsHead}
use Rattle.jb_journal.specs.Writing.{Reaches}

-- bytes that are still to be written into a file, from a place on
pub record Pending : Type 0 where
  pub file : FileId
  pub at : ℕ
  pub bytes : List ℕ

-- what the disk tells, with these bytes written
abbrev pub told_with : Pending → Option Files → Option Files
told_with pending contents = option_map (written pending.file pending.at pending.bytes) contents

-- they have their place in the file, where the disk tells
abbrev pub StandsInFile : Pending → Option Files → Type 0
StandsInFile pending contents = Reaches contents pending.file (pending.at + length pending.bytes)

-- they go into the journal, behind its head
pub record IsBehindHead (pending : Pending) : Type 0 where
  pub file : pending.file ≡ Jnl
  pub behind : 16 ≤ pending.at

-- each place that they go to is written by some of the pieces
abbrev pub IsFrom : Files → List Piece → Pending → Type 0
IsFrom start pieces pending = IsWrittenBy start pieces pending.file pending.at (length pending.bytes)

-- the same place, and nothing for it
abbrev pub drained : Pending → Pending
drained pending = record { file = pending.file; at = pending.at; bytes = [] }

-- what was gathered is to be written: no more is on its way then, and any bytes where it goes do no harm meanwhile
pub record Flushes {T E : Type 0} (was : Pending) (old : Device) (now : Pending) (new : Device) (result : Result T E) : Type 0 where
  pub told : OnOk result (new.contents ≡ told_with was old.contents)
  pub none : now ≡ drained was
  pub head : IsBehindHead was → (start : Files) → Keeps (KeepsHead start) old new
  pub way : (lengths : List Length) (pieces : List Piece) (start : Files) → IsFrom start pieces was → Keeps (IsOnTheWay lengths pieces start) old new
  pub come : OnOk result (ComeBy [] [] old.moments new.moments)
  pub cause : FailsBy ⊥ old new result

-- bytes are to go to a place of a file: they are written or on their way then, and any bytes there do no harm meanwhile
pub record Gathers {T E : Type 0} (file : FileId) (at : ℕ) (bytes : List ℕ) (was : Pending) (old : Device) (now : Pending) (new : Device) (result : Result T E) : Type 0 where
  pub told : OnOk result (told_with now new.contents ≡ option_map (written file at bytes) (told_with was old.contents))
  pub held : OnOk result (StandsInFile now new.contents)
  pub head : IsBehindHead was → file ≡ Jnl → 16 ≤ at → IsBehindHead now × ((start : Files) → Keeps (KeepsHead start) old new)
  pub way : (lengths : List Length) (pieces : List Piece) (start : Files) → IsFrom start pieces was → IsWrittenBy start pieces file at (length bytes)
      → IsFrom start pieces now × Keeps (IsOnTheWay lengths pieces start) old new
  pub come : OnOk result (ComeBy [] [] old.moments new.moments)
  pub cause : FailsBy ⊥ old new result

-- they go into the journal behind its head, and have their place there
pub record IsBound (pending : Pending) (contents : Option Files) : Type 0 where
  pub head : IsBehindHead pending
  pub held : StandsInFile pending contents

-- bytes that were to be written into the journal behind its head, by way of what is gathered
pub record PutsBytes {T E : Type 0} (at : ℕ) (bytes : List ℕ) (was : Pending) (old : Device) (now : Pending) (new : Device) (result : Result T E) : Type 0 where
  pub done : OnOk result (told_with now new.contents ≡ option_map (written Jnl at bytes) (told_with was old.contents))
  pub bound : OnOk result (IsBound now new.contents)
  pub come : OnOk result (ComeBy [] [] old.moments new.moments)
  pub keeps : (start : Files) → Keeps (KeepsHead start) old new
  pub cause : FailsBy ⊥ old new result
