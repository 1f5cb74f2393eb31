-- What a commit asks of the files, and what it makes of them.
use Rattle.std.specs.Prelude.{◌≡◌, ◌≢◌, ◌⊎◌, ℕ, ◌^◌, ◌<◌, ◌≤◌, List, ◌++◌, length, take}
use Rattle.jb_disk.specs.declared.file.FileId.{FileId}
use Rattle.jb_disk.specs.declared.file.FileId.TheVariants.{Jnl}
use Rattle.jb_disk.specs.RedoView.{RedoView}
use Rattle.jb_disk.specs.Files.{Files, with_file}
use Rattle.jb_disk.specs.declared.version.Version.TheVariants.{Two}
use Rattle.jb_disk.specs.Gate.{version_of, IsShut, with_gate_closed}
use Rattle.jb_redo.specs.Changes.{changed}
use Rattle.jb_redo.specs.Record.{record_bytes}
use Rattle.jb_redo.specs.Replay.{IsGrowthCovered, Replays}
use Rattle.jb_redo.specs.Rules.{sizes_of, IsLegalRecord}

-- the files are the same but for the journal
abbrev pub AgreeButJournal : Files → Files → Type 0
AgreeButJournal one other = (file : FileId) → file ≢ Jnl → one file ≡ other file

-- the journal has the head of the second version, with the gate closed
pub record IsPlain (files : Files) : Type 0 where
  pub long : 16 ≤ length (files Jnl)
  pub two : version_of files ≡ Two
  pub shut : IsShut files

-- over these files: the change of this number makes a record and writes each byte past an old end, and the journal is plain
pub record IsReady (number : ℕ) (change : RedoView) (files : Files) : Type 0 where
  pub numbered : number < 2 ^ 64
  pub legal : IsLegalRecord Two (sizes_of files) change.lengths change.pieces
  pub grown : IsGrowthCovered change.lengths change.pieces files
  pub plain : IsPlain files

-- the journal's head as it is, and the record behind it
abbrev pub journal_of : ℕ → RedoView → Files → List ℕ
journal_of number change files = take 16 (files Jnl) ++ record_bytes Two number change.lengths change.pieces

-- the files after a commit: the change done, and the record behind a closed gate
abbrev pub committed : ℕ → RedoView → Files → Files
committed number change files = with_gate_closed (with_file Jnl (journal_of number change files) (changed change files))

-- these files replay to files that hold the same as the base but for the journal
pub record ReplaysTo (base files : Files) : Type 0 where
  pub after : Files
  pub replays : Replays files after
  pub same : AgreeButJournal after base

-- they replay to the files before the change or to those after it
abbrev pub IsBeforeOrAfter : RedoView → Files → Files → Type 0
IsBeforeOrAfter change start files = ReplaysTo start files ⊎ ReplaysTo (changed change start) files
