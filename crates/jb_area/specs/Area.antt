-- An open area, as its callers see it: at rest, with a call begun, or in doubt.
use Rattle.std.specs.Prelude.{◌≡◌, ◌⊎◌, ℕ, ◌≤◌, length, Bool, true, false, List, Option, Some, None}
use Rattle.std.specs.Option.{ForSome}
use Rattle.jb_base.specs.declared.area.AreaRules.{AreaRules}
use Rattle.jb_limits.specs.declared.limits.TheConstants.{MOST_ADDRESS_BYTES, MOST_SLOTS}
use Rattle.jb_change.specs.Ready.{HasRoomInAll}
use Rattle.jb_decide.specs.Coming.{Coming}
use Rattle.jb_decide.specs.Decided.{IsNoChange, IsPending, made}
use Rattle.jb_decide.specs.Holds.{HoldsCopies}
use Rattle.jb_decide.specs.Telling.{IsToldBy}
use Rattle.jb_disk.specs.RedoView.{RedoView}
use Rattle.jb_disk.specs.Device.{Device}
use Rattle.jb_disk.specs.Files.{Files}
use Rattle.jb_held.specs.Pending.{BringsRoom, no_room}
use Rattle.jb_held.specs.declared.pending.Pending.{Pending}
use Rattle.jb_journal.specs.Commit.{AgreeButJournal}
use Rattle.jb_journal.specs.declared.stopped.Stopped.{Stopped}
use Rattle.jb_journal.specs.declared.stopped.Stopped.TheVariants.{Early}
use Rattle.jb_state.specs.Sound.{IsSound}
use Rattle.jb_state.specs.declared.change.Change.{Change}
use Rattle.jb_state.specs.declared.change.Change.TheVariants.{Nothing, Packed}
use Rattle.jb_state.specs.declared.loaded.Loaded.{Loaded}
use Rattle.jb_model.specs.declared.reply.Reply.{Reply}
use Rattle.jb_pack.specs.Shadow.{Shadow}
use Rattle.jb_area.specs.Commits.{IsCopyingAs, IsCounted, IsSettledAs, IsStoppedAs, next_commit, packs_with}
use Rattle.jb_area.specs.Holds.{HasShortJournal, Opens, OpensToEither}
use Rattle.jb_area.specs.declared.area.OpenArea.{OpenArea}
use Rattle.jb_area.specs.declared.stage.Stage.{Stage}
use Rattle.jb_area.specs.declared.stage.Stage.TheVariants.{Resting, Begun, Doubtful, Copying}

-- these files with the change of a call that is begun done in them
abbrev pub done_in : Stage → RedoView → Files → Files
done_in Resting redo files = files
done_in (Begun reply pending) redo files = made pending.change redo files
done_in (Doubtful stopped pending) redo files = files
done_in Copying redo files = files

-- the redo of a call: one of its own, or the small one
abbrev pub redo_in : Option RedoView → RedoView → RedoView
redo_in None small = small
redo_in (Some large) small = large

-- the copies of texts that are kept once this is done: after a pack none are of use
abbrev pub copied_after : Change → Option Shadow → Option Shadow
copied_after (Packed plan base) copies = None
copied_after _ copies = copies

-- the same, once the call is done that is begun
abbrev pub copies_kept : Stage → Option Shadow → Option Shadow
copies_kept Resting copies = copies
copies_kept (Begun reply pending) copies = copied_after pending.change copies
copies_kept (Doubtful stopped pending) copies = copies
copies_kept Copying copies = copies

-- the call is done that was begun: its change is the next commit, or it has none
abbrev pub IsCountedIn : Stage → ℕ → ℕ → Option Files → Type 0
IsCountedIn Resting was now contents = now ≡ was
IsCountedIn (Begun reply pending) was now contents = IsCounted pending.change was now contents
IsCountedIn (Doubtful stopped pending) was now contents = now ≡ was
IsCountedIn Copying was now contents = now ≡ was

-- a call was stopped: with a change, which took the next number then, or without one
abbrev pub commits_with : Option Coming → ℕ → ℕ
commits_with None commits = commits
commits_with (Some coming) commits = next_commit commits

-- the count of packs, once what is begun or in doubt stands
abbrev pub packs_in : Stage → ℕ → ℕ
packs_in Resting packs = packs
packs_in (Begun reply pending) packs = packs_with pending.change packs
packs_in (Doubtful stopped pending) packs = packs_with pending.change packs
packs_in Copying packs = packs

-- where the call was stopped that is in doubt; a copying of texts is stopped early
abbrev pub stopped_in : Stage → Stopped
stopped_in Resting = Early
stopped_in (Begun reply pending) = Early
stopped_in (Doubtful stopped pending) = stopped
stopped_in Copying = Early

module _ {D : Type 0} where
  -- the area as it is loaded; while a call is begun or in doubt, as it was before that call
  abbrev pub loaded_of : OpenArea D → Loaded
  loaded_of area = area.held

  -- its rules
  abbrev pub rules_of : OpenArea D → AreaRules
  rules_of area = area.rules

  -- the redo that stays with the area, for small changes: what it holds, and its room
  abbrev pub small_redo_of : OpenArea D → RedoView
  small_redo_of area = area.redo

  -- the number of its last commit, also where that was stopped; 0 before the first
  abbrev pub commits_of : OpenArea D → ℕ
  commits_of area = area.commits

  -- the number of packs since it was opened, at most the last count
  abbrev pub packs_of : OpenArea D → ℕ
  packs_of area = area.packs

  -- that which it has once what is begun or in doubt stands
  abbrev pub packs_to : OpenArea D → ℕ
  packs_to area = packs_in area.stage area.packs

  -- the redo of the call that is begun or in doubt
  abbrev pub redo_of : OpenArea D → RedoView
  redo_of area = redo_in area.large area.redo

  -- where the call was stopped that is in doubt
  abbrev pub stopped_of : OpenArea D → Stopped
  stopped_of area = stopped_in area.stage

  -- what is copied of its texts for a pack, where something is
  abbrev pub copied_of : OpenArea D → Option Shadow
  copied_of area = area.packer

  -- what the area keeps of it once what is begun is done
  abbrev pub copies_after : OpenArea D → Option Shadow
  copies_after area = copies_kept area.stage area.packer

  -- these files with what is begun in the area done in them
  abbrev pub files_after : OpenArea D → Files → Files
  files_after area files = done_in area.stage (redo_of area) files

  -- the call that is begun has no change
  pub record HasNoChange (area : OpenArea D) : Type 0 where
    pub reply : Reply
    pub pending : Pending
    pub stage : area.stage ≡ Begun reply pending
    pub none : pending.change ≡ Nothing

  -- what is loaded is sound and has no more slots than the rules allow, which are as they may be; and the texts have its length
  pub record IsSoundFor (area : OpenArea D) (texts : List ℕ) : Type 0 where
    pub few_slots : area.rules.slots ≤ MOST_SLOTS
    pub address : length area.rules.address ≤ MOST_ADDRESS_BYTES
    pub sound : IsSound area.rules.slots area.held
    pub sized : length texts ≡ area.held.texts_len
    pub room : HasRoomInAll area.redo

-- of a disk that shows itself so
module _ {D : Type 0} (shown : D → Device) where
  -- the device with the area's files
  abbrev pub device_of : OpenArea D → Device
  device_of area = shown area.disk

  -- the files hold what is loaded, with these texts, and what is copied of them; nothing is on its way, and a crash now leaves them so
  pub record IsHeldByFiles (area : OpenArea D) (texts : List ℕ) : Type 0 where
    pub ruled : IsSoundFor area texts
    pub settled : IsSettledAs area.held texts (shown area.disk)
    pub copies : ForSome (shown area.disk).contents (HoldsCopies area.packer)

  -- no call is begun, no redo is kept but the small one, and the area is settled
  pub record IsResting (area : OpenArea D) (texts : List ℕ) : Type 0 where
    pub stage : area.stage ≡ Resting
    pub small : area.large ≡ None
    pub kept : IsHeldByFiles area texts

  -- a call is begun that will be answered so, and this is to come of it; a post or an edit has this text, and the answer tells
  -- whether it writes one, or packs the area
  pub record IsBegun (area : OpenArea D) (texts : List ℕ) (reply : Reply) (coming : Coming) : Type 0 where
    pub posted : List ℕ
    pub pending : Pending
    pub stage : area.stage ≡ Begun reply pending
    pub kept : IsHeldByFiles area texts
    pub change : IsNoChange pending.change area.held texts coming
        ⊎ IsPending area.rules.slots (shown area.disk).contents area.packer (redo_of area) pending.change area.held posted texts coming
    pub room : BringsRoom pending.change pending.room area.held
    pub told : IsToldBy reply pending.change

  -- the files are those that they were with what was begun done in them, but for the journal
  abbrev pub HasMade : OpenArea D → OpenArea D → Type 0
  HasMade old new = ForSome (shown old.disk).contents (λ was. ForSome (shown new.disk).contents (λ now. AgreeButJournal now (files_after old was)))

  -- the area was packed just now: no copies are kept, and the journal is short
  pub record HasPacked (area : OpenArea D) : Type 0 where
    pub dropped : area.packer ≡ None
    pub short : ForSome (shown area.disk).contents HasShortJournal

  -- the files are between the area as it is loaded and the one to come
  pub record IsBetween (area : OpenArea D) (texts : List ℕ) (coming : Coming) : Type 0 where
    pub stopped : Stopped
    pub posted : List ℕ
    pub pending : Pending
    pub stage : area.stage ≡ Doubtful stopped pending
    pub ruled : IsSoundFor area texts
    pub change : IsPending area.rules.slots (shown area.disk).contents area.packer (redo_of area) pending.change area.held posted texts coming
    pub room : BringsRoom pending.change pending.room area.held
    pub doubt : IsStoppedAs stopped (redo_of area) area.held texts area.packer (shown area.disk)

  -- a call was stopped that had changed nothing
  pub record IsUnchanged (area : OpenArea D) (texts : List ℕ) : Type 0 where
    pub stage : area.stage ≡ Doubtful Early (record { change = Nothing; room = no_room })
    pub kept : IsHeldByFiles area texts

  -- a copying of texts was stopped: .NDT may hold anything, and a crash may leave anything of it; all else is as before
  pub record IsHalfCopied (area : OpenArea D) (texts : List ℕ) : Type 0 where
    pub stage : area.stage ≡ Copying
    pub ruled : IsSoundFor area texts
    pub copying : IsCopyingAs area.held texts (shown area.disk)

  -- a call was stopped: with this change, which may stand or not, or without one
  abbrev pub IsDoubtful : OpenArea D → List ℕ → Option Coming → Type 0
  IsDoubtful area texts None = IsUnchanged area texts ⊎ IsHalfCopied area texts
  IsDoubtful area texts (Some coming) = IsBetween area texts coming

  -- a call is begun
  pub record HasBegun (area : OpenArea D) : Type 0 where
    pub texts : List ℕ
    pub reply : Reply
    pub coming : Coming
    pub begun : IsBegun area texts reply coming

  -- a call was stopped
  pub record HasDoubt (area : OpenArea D) : Type 0 where
    pub texts : List ℕ
    pub coming : Option Coming
    pub doubt : IsDoubtful area texts coming

  -- at rest with this loaded
  pub record RestsAt (area : OpenArea D) (texts : List ℕ) (loaded : Loaded) : Type 0 where
    pub rests : IsResting area texts
    pub is : area.held ≡ loaded

  -- settled as the answer says: with the change, or without it
  abbrev pub SettlesAt : Bool → Loaded → List ℕ → Option Coming → OpenArea D → Type 0
  SettlesAt false from texts coming area = RestsAt area texts from
  SettlesAt true from texts None area = ⊥
  SettlesAt true from texts (Some coming) area = RestsAt area coming.texts coming.to

-- these files, read or left by a crash, open to the area before the change or after it, or to the one where nothing changes
abbrev pub DoubtOpens : Loaded → List ℕ → Option Coming → Files → Type 0
DoubtOpens from texts None files = Opens from texts files
DoubtOpens from texts (Some coming) files = OpensToEither from texts coming files
