-- What a command comes to over an area as it is loaded.
use Rattle.std.specs.Prelude.{◌≡◌, ◌≢◌, ◌⊎◌, ℕ, ◌+◌, ◌*◌, ◌≤◌, List, length, IsSome, Option}
use Rattle.jb_base.specs.declared.area.AreaRules.{AreaRules}
use Rattle.jb_base.specs.declared.user.User.{User}
use Rattle.jb_change.specs.Put.{KeepsIndexOnKill}
use Rattle.jb_disk.specs.Files.{Files}
use Rattle.jb_disk.specs.RedoView.{RedoView}
use Rattle.jb_held.specs.Pending.{BringsRoom}
use Rattle.jb_limits.specs.declared.limits.TheConstants.{MOST_SLOTS}
use Rattle.jb_state.specs.Change.{Fits, after, texts_after}
use Rattle.jb_state.specs.Sound.{IsSound}
use Rattle.jb_state.specs.State.{state_of}
use Rattle.jb_model.specs.Step.{Step}
use Rattle.jb_state.specs.declared.change.Change.{Change}
use Rattle.jb_state.specs.declared.change.Change.TheVariants.{Nothing, Packed}
use Rattle.jb_model.specs.declared.command.Command.{Command}
use Rattle.jb_state.specs.declared.loaded.Loaded.{Loaded}
use Rattle.jb_model.specs.declared.reply.Letter.{Letter}
use Rattle.jb_model.specs.declared.reply.Reply.{Reply}
use Rattle.jb_model.specs.declared.reply.Reply.TheVariants.{Text}
use Rattle.jb_pack.specs.Shadow.{Shadow}
use Rattle.jb_redo.specs.Changes.{changed, record_size}
use Rattle.jb_decide.specs.Coming.{Coming, IsChange}
use Rattle.jb_decide.specs.Headers.{KeepsHeaders, PacksHeaders}
use Rattle.jb_decide.specs.Holds.{HoldsWith}
use Rattle.jb_decide.specs.StepOf.{ChangesNothing, IsNoPack, written_text}
use Rattle.jb_decide.specs.Telling.{IsPacking, IsToldBy}
use Rattle.jb_decide.specs.declared.decided.Decided.{Decided}

-- an area that is kept by these rules is sound, and has no more slots than they allow
pub record IsKeptFor (rules : AreaRules) (loaded : Loaded) : Type 0 where
  pub few_slots : rules.slots ≤ MOST_SLOTS
  pub sound : IsSound rules.slots loaded

-- however long the texts are, the record of a pack is short beside the headers and the index that it makes
abbrev pub HasShortRecord : Change → RedoView → Loaded → Type 0
HasShortRecord (Packed plan base) redo to = 16 + record_size redo ≤ 4096 + 3 * (to.headers_len + 8 * length to.slots)
HasShortRecord _ redo to = Unit {0}

-- the change that is pending, in this redo, brings what is to come, of files that have these copies of the texts
pub record IsPending (limit : ℕ) (contents : Option Files) (copies : Option Shadow) (redo : RedoView) (pending : Change) (from : Loaded) (posted texts : List ℕ) (coming : Coming) : Type 0 where
  pub some : pending ≢ Nothing
  pub becomes : coming.to ≡ after pending from
  pub texts_are : coming.texts ≡ texts_after pending from posted texts
  pub change : IsChange contents redo from texts copies coming
  pub fits : Fits limit pending from
  pub sound : IsSound limit coming.to
  pub sized : length coming.texts ≡ coming.to.texts_len
  pub short : HasShortRecord pending redo coming.to

-- nothing is to be changed
pub record IsNoChange (pending : Change) (from : Loaded) (texts : List ℕ) (coming : Coming) : Type 0 where
  pub none : pending ≡ Nothing
  pub same : coming ≡ record { to = from; texts = texts }

-- the reply shows no text, or the texts are told
abbrev pub IsTold : Reply → Option Files → Type 0
IsTold reply contents = (letter : Letter) → reply ≡ Text letter → IsSome contents

-- the files with what is pending done in them, by this redo
abbrev pub made : Change → RedoView → Files → Files
made Nothing redo files = files
made _ redo files = changed redo files

-- where the texts are told, this is the reply by them, and on each disk the one by some texts of the area's length
pub record IsAnswerBy (reply : List ℕ → Reply) (from : Loaded) (texts : List ℕ) (contents : Option Files) (answer : Reply) : Type 0 where
  pub told : IsTold answer contents → answer ≡ reply texts
  pub others : List ℕ
  pub sized : length others ≡ from.texts_len
  pub answers : answer ≡ reply others

-- for some texts of the area's length the command is answered so, and changes this
pub record IsAnsweredSomewhere (rules : AreaRules) (from : Loaded) (user : User) (moment : ℕ) (command : Command) (reply : Reply) (change : Change) : Type 0 where
  pub texts : List ℕ
  pub sized : length texts ≡ from.texts_len
  pub step : Step rules (state_of texts from) user moment command reply (state_of (texts_after change from (written_text command) texts) (after change from))

-- the command is answered so, and what is pending, in this redo, is what it changes, of files that have these copies of the
-- texts; a letter is that of these texts where they are told, and on each disk it is that of some texts
pub record IsDecided (rules : AreaRules) (from : Loaded) (texts : List ℕ) (contents : Option Files) (copies : Option Shadow) (redo : RedoView) (user : User) (moment : ℕ) (command : Command) (decided : Decided) : Type 0 where
  pub coming : Coming
  pub change : IsNoChange decided.pending.change from texts coming ⊎ IsPending rules.slots contents copies redo decided.pending.change from (written_text command) texts coming
  pub room : BringsRoom decided.pending.change decided.pending.room from
  pub step : IsTold decided.reply contents → Step rules (state_of texts from) user moment command decided.reply (state_of coming.texts coming.to)
  pub somewhere : IsAnsweredSomewhere rules from user moment command decided.reply decided.pending.change
  pub idle : ChangesNothing command decided.reply → IsNoChange decided.pending.change from texts coming
  -- no command but a pack packs the area; the reply says whether the change packs it, writes a text, or leaves the texts as they are
  pub kind : IsNoPack command → IsPacking decided.pending.change → ⊥
  pub told : IsToldBy decided.reply decided.pending.change
  pub headers : IsNoPack command → (files : Files) → HoldsWith from texts copies files → KeepsHeaders decided.pending.change decided.reply from coming.to files (made decided.pending.change redo files)
  -- a kill leaves the file of the index as it is
  pub index : KeepsIndexOnKill redo from decided.pending.change
  pub packs : (files : Files) → HoldsWith from texts copies files → PacksHeaders decided.reply coming.to (made decided.pending.change redo files)
