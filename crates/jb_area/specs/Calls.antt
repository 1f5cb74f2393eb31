-- What the calls of an open area do.
use Rattle.std.specs.Prelude.{◌≡◌, ℕ, Bool, true, List, Option, Some, None, Result, Ok, Err, IsOk, IfErr, IfOk, OnErr, OnOk}
use Rattle.std.specs.Option.{ForSome}
use Rattle.jb_base.specs.declared.user.User.{User}
use Rattle.jb_change.specs.Put.{KeepsIndexOnKill}
use Rattle.jb_decide.specs.Coming.{Coming, coming_of}
use Rattle.jb_decide.specs.Decided.{IsAnsweredSomewhere, IsTold}
use Rattle.jb_decide.specs.Errors.{is_area_fault}
use Rattle.jb_decide.specs.Headers.{KeepsHeaders, PacksHeaders}
use Rattle.jb_decide.specs.Holds.{HoldsWith}
use Rattle.jb_decide.specs.Packs.{IsPacked}
use Rattle.jb_decide.specs.StepOf.{ChangesNothing, IsNoPack, written_text}
use Rattle.jb_decide.specs.Telling.{IsToldBy}
use Rattle.jb_decide.specs.declared.decided.Decided.{Decided}
use Rattle.jb_decide.specs.declared.error.AreaError.{AreaError}
use Rattle.jb_decide.specs.declared.error.AreaError.TheVariants.{StoreFault, OutOfMemory}
use Rattle.jb_disk.specs.RedoView.{RedoView}
use Rattle.jb_disk.specs.Device.{CountsFaults, Device, OnlyReads, TellsAlike}
use Rattle.jb_disk.specs.Files.{Files}
use Rattle.jb_disk.specs.Runs.{LeavesOnly}
use Rattle.jb_disk.specs.declared.file.FileId.TheVariants.{Jdx}
use Rattle.jb_held.specs.Pending.{no_room}
use Rattle.jb_journal.specs.declared.stopped.Stopped.TheVariants.{Early}
use Rattle.jb_state.specs.Change.{Fits}
use Rattle.jb_state.specs.Edited.{EditsAlone}
use Rattle.jb_state.specs.State.{state_of}
use Rattle.jb_model.specs.Step.{Step}
use Rattle.jb_state.specs.declared.change.Change.{Change}
use Rattle.jb_state.specs.declared.change.Change.TheVariants.{Nothing, Killed}
use Rattle.jb_model.specs.declared.command.Command.{Command}
use Rattle.jb_model.specs.declared.command.Command.TheVariants.{Post, Edit, Read, Peek, Kill, SetMark, Pack, Relink}
use Rattle.jb_model.specs.declared.reply.Reply.{Reply}
use Rattle.jb_pack.specs.Touching.{TouchesShadow}
use Rattle.jb_area.specs.Area.{copies_after, files_after, packs_to, redo_of, small_redo_of, commits_with, DoubtOpens, HasMade, HasNoChange, HasPacked, IsBegun, IsCountedIn, IsDoubtful, IsResting, RestsAt}
use Rattle.jb_area.specs.Commits.{IsCounted, next_commit, packs_with}
use Rattle.jb_area.specs.Holds.{Opens, OpensToEither}
use Rattle.jb_area.specs.declared.area.OpenArea.{OpenArea}
use Rattle.jb_area.specs.declared.stage.Stage.{Stage}
use Rattle.jb_area.specs.declared.stage.Stage.TheVariants.{Begun, Doubtful}

-- a command only reads the device until its change is committed, but for a pack, which copies texts into .NDT first
abbrev pub OnlyReadsOrCopies : Command → Device → Device → Type 0
OnlyReadsOrCopies (Post to subject text reply_to private) old new = OnlyReads old new
OnlyReadsOrCopies (Edit number subject text) old new = OnlyReads old new
OnlyReadsOrCopies (Read number) old new = OnlyReads old new
OnlyReadsOrCopies (Peek number) old new = OnlyReads old new
OnlyReadsOrCopies (Kill number) old new = OnlyReads old new
OnlyReadsOrCopies (SetMark number) old new = OnlyReads old new
OnlyReadsOrCopies Relink old new = OnlyReads old new
OnlyReadsOrCopies Pack old new = TouchesShadow old new

-- a kill leaves the file of the index as it was
abbrev pub KeepsIndexFile : Change → Files → Files → Type 0
KeepsIndexFile (Killed place) was now = now Jdx ≡ was Jdx
KeepsIndexFile _ was now = Unit {0}

-- of a disk that shows itself so
module _ {D : Type 0} (shown : D → Device) where
  -- no call is begun, and the area is settled
  pub record HasRest (area : OpenArea D) : Type 0 where
    pub texts : List ℕ
    pub rests : IsResting shown area texts

  -- a call of this command is begun; its reply, and what is to come of it, are those of the definition, but for a letter whose text is not told
  pub record IsBegunFor (area : OpenArea D) (texts : List ℕ) (user : User) (moment : ℕ) (command : Command) : Type 0 where
    pub reply : Reply
    pub coming : Coming
    pub begun : IsBegun shown area texts reply coming
    pub text : begun.posted ≡ written_text command
    pub step : IsTold reply (shown area.disk).contents
        → Step area.rules (state_of texts area.held) user moment command reply (state_of coming.texts coming.to)
    -- a letter that is not told is that of some texts, with this change
    pub somewhere : IsAnsweredSomewhere area.rules area.held user moment command reply begun.pending.change
    -- a refusal, a look, and a relink that finds no wrong link have no change
    pub idle : ChangesNothing command reply → HasNoChange area × (coming ≡ record { to = area.held; texts = texts })
    -- a kill leaves the file of the index in whatever files hold the area
    pub index : KeepsIndexOnKill (redo_of area) area.held begun.pending.change
    -- but for a pack, each header stays in its place in whatever files hold the area, or is that of the edited message
    pub headers : IsNoPack command → (files : Files) → HoldsWith area.held texts area.packer files
        → KeepsHeaders begun.pending.change reply area.held coming.to files (files_after area files)
    -- and a pack that is done puts all of them one behind another
    pub packs : (files : Files) → HoldsWith area.held texts area.packer files → PacksHeaders reply coming.to (files_after area files)

  -- the command was answered so, and is done; a crash meanwhile leaves the area before it or after it
  pub record HasAnswered (old new : OpenArea D) (texts : List ℕ) (user : User) (moment : ℕ) (command : Command) (reply : Reply) : Type 0 where
    pub coming : Coming
    pub step : IsTold reply (shown old.disk).contents
        → Step old.rules (state_of texts old.held) user moment command reply (state_of coming.texts coming.to)
    pub rests : RestsAt shown new coming.texts coming.to
    -- this is what it changed; a letter that was not told is that of some texts
    pub change : Change
    pub fits : Fits old.rules.slots change old.held
    pub becomes : coming ≡ coming_of change old.held (written_text command) texts
    pub somewhere : IsAnsweredSomewhere old.rules old.held user moment command reply change
    -- the reply tells whether a text was written, or the area packed
    pub told : IsToldBy reply change
    -- it was the next commit of the area, and its record says so; and a pack is counted
    pub counted : IsCounted change old.commits new.commits (shown new.disk).contents
    pub packs_counted : new.packs ≡ packs_with change old.packs
    -- for a refusal, a look, and a relink that found no wrong link, the device was only read
    pub idle : ChangesNothing command reply → OnlyReads (shown old.disk) (shown new.disk) × (coming ≡ record { to = old.held; texts = texts })
    -- but for a pack, each header stayed in its place, or is that of the edited message
    pub headers : IsNoPack command → ForSome (shown old.disk).contents (λ was. ForSome (shown new.disk).contents (λ now.
        KeepsHeaders change reply old.held coming.to was now))
    -- a kill left the file of the index as it was
    pub index : ForSome (shown old.disk).contents (λ was. ForSome (shown new.disk).contents (λ now. KeepsIndexFile change was now))
    -- and a pack that was done put all of them one behind another
    pub packs : ForSome (shown old.disk).contents (λ was. ForSome (shown new.disk).contents (λ now. PacksHeaders reply coming.to now))
    pub crash : ForSome (shown old.disk).contents (λ files.
        LeavesOnly (shown old.disk) (shown new.disk) (OpensToEither old.held texts coming))

  -- the area that rested with these texts rests with some, and nothing but the subject and the text of the message of this number is
  -- another in it
  pub record HasEditedAlone (number : ℕ) (old new : OpenArea D) (texts : List ℕ) : Type 0 where
    pub texts_now : List ℕ
    pub rests : IsResting shown new texts_now
    pub alone : EditsAlone number (state_of texts old.held) (state_of texts_now new.held)

  -- what the change of a call in doubt would come to, as it would have been answered, and the packs that the area has then; a call
  -- that changes nothing has none
  abbrev pub IsChangeOf : OpenArea D → OpenArea D → List ℕ → User → ℕ → Command → Option Coming → Type 0
  IsChangeOf old new texts user moment command None = packs_to new ≡ old.packs
  IsChangeOf old new texts user moment command (Some coming) =
      (reply : Reply) × (change : Change) × (ChangesNothing command reply → ⊥) × Fits old.rules.slots change old.held
      × (coming ≡ coming_of change old.held (written_text command) texts)
      × IsAnsweredSomewhere old.rules old.held user moment command reply change
      × (IsTold reply (shown old.disk).contents → Step old.rules (state_of texts old.held) user moment command reply (state_of coming.texts coming.to))
      × IsToldBy reply change × (packs_to new ≡ packs_with change old.packs)

  -- the call was stopped by a fault: its change, where it had one, may stand or not, and the area is loaded as before
  pub record HasStoppedIn (old new : OpenArea D) (texts : List ℕ) (user : User) (moment : ℕ) (command : Command) : Type 0 where
    pub coming : Option Coming
    pub change : IsChangeOf old new texts user moment command coming
    pub doubt : IsDoubtful shown new texts coming
    pub opens : ForSome (shown new.disk).contents (DoubtOpens old.held texts coming)
    pub loaded : new.held ≡ old.held
    pub commits : new.commits ≡ commits_with coming old.commits
    pub packs : new.packs ≡ old.packs
    pub crash : ForSome (shown old.disk).contents (λ files.
        LeavesOnly (shown old.disk) (shown new.disk) (DoubtOpens old.held texts coming))

  -- why a call was not begun: a fault, and then the area is in doubt without a change; or want of memory, and then it is at rest as before
  abbrev pub IsNotBegun : AreaError → OpenArea D → OpenArea D → List ℕ → Type 0
  IsNotBegun StoreFault old new texts = IsDoubtful shown new texts None
  IsNotBegun OutOfMemory old new texts = RestsAt shown new texts old.held

  -- what a call that was not done leaves: after a fault a doubt, after want of memory all as it was, and the device was only read,
  -- but for the copies of a pack
  abbrev pub FailsWith : AreaError → OpenArea D → OpenArea D → List ℕ → User → ℕ → Command → Type 0
  FailsWith StoreFault old new texts user moment command = HasStoppedIn old new texts user moment command
  FailsWith OutOfMemory old new texts user moment command = RestsAt shown new texts old.held × OnlyReadsOrCopies command (shown old.disk) (shown new.disk)

  -- a call at rest: it is answered and done, or fails and leaves what its error says; a fault has its cause, and no other answer hides one; the disk tells as before, and the rules stay
  pub record MeetsCall (old new : OpenArea D) (user : User) (moment : ℕ) (command : Command) (result : Result Reply AreaError) : Type 0 where
    pub answered : IfOk result (λ reply. (texts : List ℕ) → IsResting shown old texts → HasAnswered old new texts user moment command reply)
    pub failed : IfErr result (λ error. (texts : List ℕ) → IsResting shown old texts → FailsWith error old new texts user moment command)
    pub faults : CountsFaults is_area_fault (shown old.disk) (shown new.disk) result
    pub alike : TellsAlike (shown old.disk) (shown new.disk)
    pub rules : new.rules ≡ old.rules
    -- whatever is answered, each command but a pack keeps what is copied of the texts, and a pack that was done drops it
    pub copies : IsNoPack command → new.packer ≡ old.packer
    pub packed : IfOk result (λ reply. IsPacked reply → HasPacked shown new)
    -- for want of memory nothing is committed, and no pack is counted
    pub unspent : result ≡ Err OutOfMemory → new.commits ≡ old.commits
    pub unpacked : result ≡ Err OutOfMemory → new.packs ≡ old.packs

  -- a call at rest is begun, or not; its files are only read, and the area is loaded as before, with what is copied of its texts
  pub record BeginsReading (old new : OpenArea D) (user : User) (moment : ℕ) (command : Command) (result : Result (Unit {0}) AreaError) : Type 0 where
    pub begun : OnOk result ((texts : List ℕ) → IsResting shown old texts → IsBegunFor new texts user moment command)
    pub failed : IfErr result (λ error. (texts : List ℕ) → IsResting shown old texts → IsNotBegun error old new texts)
    pub faults : CountsFaults is_area_fault (shown old.disk) (shown new.disk) result
    pub reads : OnlyReads (shown old.disk) (shown new.disk)
    pub loaded : new.held ≡ old.held
    pub commits : new.commits ≡ old.commits
    pub packs : new.packs ≡ old.packs
    pub rules : new.rules ≡ old.rules
    pub copies : new.packer ≡ old.packer
    -- and but for a pack they stay when it is done
    pub kind : OnOk result (IsNoPack command → copies_after new ≡ new.packer)

  -- a call at rest is begun, or not; its files are only read, but for the copies of a pack that is not refused, and the area is loaded as before
  pub record BeginsCall (old new : OpenArea D) (user : User) (moment : ℕ) (command : Command) (result : Result (Unit {0}) AreaError) : Type 0 where
    pub begun : OnOk result ((texts : List ℕ) → IsResting shown old texts → IsBegunFor new texts user moment command)
    pub failed : IfErr result (λ error. (texts : List ℕ) → IsResting shown old texts → IsNotBegun error old new texts)
    pub faults : CountsFaults is_area_fault (shown old.disk) (shown new.disk) result
    pub reads : OnlyReadsOrCopies command (shown old.disk) (shown new.disk)
    -- and where the call has no change, it was only read
    pub idle : OnOk result (HasNoChange new → OnlyReads (shown old.disk) (shown new.disk))
    -- a crash meanwhile leaves the area before it
    pub crash : (texts : List ℕ) → IsResting shown old texts
        → ForSome (shown old.disk).contents (λ files. LeavesOnly (shown old.disk) (shown new.disk) (Opens old.held texts))
    pub alike : TellsAlike (shown old.disk) (shown new.disk)
    pub loaded : new.held ≡ old.held
    pub commits : new.commits ≡ old.commits
    pub packs : new.packs ≡ old.packs
    pub rules : new.rules ≡ old.rules
    -- each command but a pack keeps what is copied of the texts, also when it is done
    pub copies : IsNoPack command → new.packer ≡ old.packer
    pub kind : OnOk result (IsNoPack command → copies_after new ≡ new.packer)

  -- a step of a pack: the area is at rest as before, or not, as its error says; but for .NDT all is as before, also after a crash at any moment
  pub record StepsPack (old new : OpenArea D) (result : Result Bool AreaError) : Type 0 where
    pub done : OnOk result ((texts : List ℕ) → IsResting shown old texts → RestsAt shown new texts old.held)
    pub failed : IfErr result (λ error. (texts : List ℕ) → IsResting shown old texts → IsNotBegun error old new texts)
    pub opens : (texts : List ℕ) → IsResting shown old texts → ForSome (shown new.disk).contents (Opens old.held texts)
    pub crash : (texts : List ℕ) → IsResting shown old texts
        → ForSome (shown old.disk).contents (λ files. LeavesOnly (shown old.disk) (shown new.disk) (Opens old.held texts))
    pub touches : TouchesShadow (shown old.disk) (shown new.disk)
    pub faults : CountsFaults is_area_fault (shown old.disk) (shown new.disk) result
    pub alike : TellsAlike (shown old.disk) (shown new.disk)
    pub loaded : new.held ≡ old.held
    pub commits : new.commits ≡ old.commits
    pub packs : new.packs ≡ old.packs
    pub rules : new.rules ≡ old.rules
    pub room : small_redo_of new ≡ small_redo_of old

  -- a call that is begun ends: done, with the reply and the area that were to come, or stopped by a fault, and then its change is in doubt
  pub record EndsCall {E : Type 0} (is_fault : E → Bool) (old new : OpenArea D) (result : Result Reply E) : Type 0 where
    pub done : IfOk result (λ reply. (texts : List ℕ) (decided : Reply) (coming : Coming) → IsBegun shown old texts decided coming
        → (reply ≡ decided) × RestsAt shown new coming.texts coming.to)
    pub made : OnOk result (HasMade shown old new)
    -- a call without a change is done, and the device is as it was
    pub idle : HasNoChange old → IsOk result × (shown new.disk ≡ shown old.disk)
    pub fault : IfErr result (λ error. is_fault error ≡ true)
    pub doubt : OnErr result ((texts : List ℕ) (decided : Reply) (coming : Coming) → IsBegun shown old texts decided coming
        → IsDoubtful shown new texts (Some coming))
    pub opens : OnErr result ((texts : List ℕ) (decided : Reply) (coming : Coming) → IsBegun shown old texts decided coming
        → ForSome (shown new.disk).contents (OpensToEither old.held texts coming))
    pub loaded : OnErr result (new.held ≡ old.held)
    -- its change takes the next number; where it is done, its record says so
    pub counted : OnOk result (IsCountedIn old.stage old.commits new.commits (shown new.disk).contents)
    pub spent : OnErr result (new.commits ≡ next_commit old.commits)
    pub faults : CountsFaults is_fault (shown old.disk) (shown new.disk) result
    pub alike : TellsAlike (shown old.disk) (shown new.disk)
    pub crash : (texts : List ℕ) (decided : Reply) (coming : Coming) → IsBegun shown old texts decided coming
        → ForSome (shown old.disk).contents (λ files. LeavesOnly (shown old.disk) (shown new.disk) (OpensToEither old.held texts coming))
    pub room : small_redo_of new ≡ small_redo_of old
    pub rules : new.rules ≡ old.rules
    -- what is copied of the texts stays, but where a pack was done; then .JNL is short, however long the texts are
    pub copies : OnOk result (new.packer ≡ copies_after old)
    pub kept : OnErr result (new.packer ≡ old.packer)
    -- a pack is counted once it is done; where it was stopped it is counted when it is found to stand
    pub packs : OnOk result (new.packs ≡ packs_to old)
    pub unpacked : OnErr result ((new.packs ≡ old.packs) × (packs_to new ≡ packs_to old))
    pub packed : IfOk result (λ reply. IsPacked reply → HasPacked shown new)

-- the stage that a decision leads to
abbrev pub StartsAs : Result Decided AreaError → Stage → Stage → Type 0
StartsAs (Ok decided) old new = new ≡ Begun decided.reply decided.pending
StartsAs (Err StoreFault) old new = new ≡ Doubtful Early (record { change = Nothing; room = no_room })
StartsAs (Err OutOfMemory) old new = new ≡ old

-- the redo of its own that the call then has
abbrev pub large_after : Result Decided AreaError → Option RedoView → Option RedoView → Option RedoView
large_after (Ok decided) given was = given
large_after (Err error) given was = was

-- and what it answers
abbrev pub AnswersAs : Result Decided AreaError → Result (Unit {0}) AreaError → Type 0
AnswersAs (Ok decided) result = IsOk result
AnswersAs (Err error) result = result ≡ Err error
