-- What the files of an open area are at rest, and to what they open after a crash.
use Rattle.std.specs.Prelude.{◌⊎◌, ℕ, ◌+◌, ◌*◌, ◌≤◌, List, length}
use Rattle.jb_decide.specs.Coming.{Coming}
use Rattle.jb_decide.specs.Holds.{Holds}
use Rattle.jb_disk.specs.Files.{Files}
use Rattle.jb_disk.specs.declared.file.FileId.TheVariants.{Jhr, Jdx, Jlr, Jnl}
use Rattle.jb_journal.specs.Commit.{IsPlain}
use Rattle.jb_state.specs.declared.loaded.Loaded.{Loaded}
use Rattle.jb_redo.specs.Replay.{Replays}

-- the files hold this area with these texts, and their journal is ready for the next change: it has the head of the second version, with the gate closed
pub record IsAtRest (loaded : Loaded) (texts : List ℕ) (files : Files) : Type 0 where
  pub holds : Holds loaded texts files
  pub plain : IsPlain files

-- however long the texts are, the journal is short beside the headers, the index and the marks
abbrev pub HasShortJournal : Files → Type 0
HasShortJournal files = length (files Jnl) ≤ 4096 + 3 * (length (files Jhr) + length (files Jdx) + length (files Jlr))

-- as they are opened, what the journal holds done once more, they hold this area
pub record Opens (loaded : Loaded) (texts : List ℕ) (files : Files) : Type 0 where
  pub after : Files
  pub replays : Replays files after
  pub holds : Holds loaded texts after

-- as they are opened they hold the area with its texts before a change, or the one to come
abbrev pub OpensToEither : Loaded → List ℕ → Coming → Files → Type 0
OpensToEither from texts coming files = Opens from texts files ⊎ Opens coming.to coming.texts files
