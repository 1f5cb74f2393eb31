-- What is on its way in an open area, from its stage.
use Rattle.std.proofs.Common.{◌≡◌, ◌≢◌, ◌⊎◌, inl, inr, ℕ, ◌≤◌, List, Option, None, ap, sym, refl, ◌∙◌, subst, arith}
use Rattle.jb_disk.specs.Device.{Device, TellsAlike}
use Rattle.jb_disk.specs.RedoView.{RedoView}
use Rattle.jb_disk.proofs.RunLemmas.{stays_silent}
use Rattle.jb_limits.specs.declared.limits.TheConstants.{MOST_SLOTS}
use Rattle.jb_state.specs.Sound.{IsSound}
use Rattle.jb_state.specs.declared.loaded.Loaded.{Loaded}
use Rattle.jb_model.specs.declared.reply.Reply.{Reply}
use Rattle.jb_journal.specs.declared.stopped.Stopped.{Stopped}
use Rattle.jb_pack.specs.Shadow.{Shadow}
use Rattle.jb_decide.specs.Coming.{BringsComing, Coming, IsChange}
use Rattle.std.specs.Option.{ForSome}
use Rattle.jb_disk.specs.Files.{Files}
use Rattle.jb_journal.specs.Commit.{AgreeButJournal}
use Rattle.jb_redo.specs.Changes.{changed}
use Rattle.jb_decide.proofs.DecidedLemmas.{fits_under, keeps_texts, sound_under}
use Rattle.jb_decide.specs.Decided.{IsNoChange, IsPending, made}
use Rattle.jb_decide.specs.Holds.{HoldsCopies}
use Rattle.jb_decide.specs.Packs.{IsPacked}
use Rattle.jb_decide.specs.Telling.{IsPacking}
use Rattle.jb_area.specs.Area.{IsCountedIn, copied_after, done_in, copies_kept, redo_in, redo_of, HasMade, HasNoChange, IsBegun, IsBetween, RestsAt}
use Rattle.jb_decide.specs.Coming.{coming_of}
use Rattle.jb_area.specs.Commits.{IsCounted, IsNumbered, IsRecorded, IsSettledAs, IsSettledWith, IsStoppedAs, MayCommit, next_commit}
use Rattle.jb_area.proofs.HoldLemmas.{numbered_as, recorded_size}
use Rattle.jb_area.specs.Holds.{HasShortJournal}
use Rattle.jb_held.specs.Pending.{BringsRoom, MayApply}
use Rattle.jb_held.specs.declared.pending.Pending.{Pending}
use Rattle.jb_state.specs.Change.{Fits, after}
use Rattle.jb_state.specs.declared.change.Change.{Change}
use Rattle.jb_state.specs.declared.change.Change.TheVariants.{Nothing, Posted, Headed, Edited, Killed, Relinked, Marked, Packed}
use Rattle.jb_area.specs.declared.area.OpenArea.{OpenArea}
use Rattle.jb_area.proofs.CommitLemmas.{some-same, told_before}
use Rattle.jb_area.proofs.CopyingLemmas.{after_has}
use Rattle.jb_area.proofs.PackedLemmas.{packing_told, short_record}
use Rattle.jb_area.specs.declared.stage.Stage.{Stage}
use Rattle.jb_area.specs.declared.stage.Stage.TheVariants.{Resting, Begun, Doubtful}

-- two begun stages are one
pub same_reply : (one other : Reply) (first second : Pending) → Begun one first ≡ Begun other second → one ≡ other
same_reply one other first second is = cc

pub same_pending : (one other : Reply) (first second : Pending) → Begun one first ≡ Begun other second → first ≡ second
same_pending one other first second is = cc

-- a call that is begun with something pending has a change
pub some_change : {D : Type 0} (area : OpenArea D) (reply : Reply) (pending : Pending) → area.stage ≡ Begun reply pending → pending.change ≢ Nothing → HasNoChange area → ⊥
some_change area reply pending is some idle =
    some (ap (λ (p : Pending). p.change) (same_pending reply idle.reply pending idle.pending (sym is ∙ idle.stage)) ∙ idle.none)

-- the copies that are kept once a call is done, by what is pending
pub kept_by : (stage : Stage) (reply : Reply) (pending : Pending) (copies : Option Shadow) → stage ≡ Begun reply pending → copies_kept stage copies ≡ copied_after pending.change copies
kept_by stage reply pending copies is = ap (λ (s : Stage). copies_kept s copies) is

-- nothing changes where nothing is pending
pub none_pending : (limit : ℕ) (contents : Option Files) (copies : Option Shadow) (redo : RedoView) (change : Change) (from : Loaded) (posted texts : List ℕ) (coming : Coming) → change ≡ Nothing
    → IsNoChange change from texts coming ⊎ IsPending limit contents copies redo change from posted texts coming → coming ≡ record { to = from; texts = texts }
none_pending limit contents copies redo change from posted texts coming none (inl nothing) = nothing.same
none_pending limit contents copies redo change from posted texts coming none (inr pending) = absurd (pending.some none)

-- something changes where something is pending
pub some_pending : (limit : ℕ) (contents : Option Files) (copies : Option Shadow) (redo : RedoView) (change : Change) (from : Loaded) (posted texts : List ℕ) (coming : Coming) → change ≢ Nothing
    → IsNoChange change from texts coming ⊎ IsPending limit contents copies redo change from posted texts coming → IsPending limit contents copies redo change from posted texts coming
some_pending limit contents copies redo change from posted texts coming some (inl nothing) = absurd (some nothing.none)
some_pending limit contents copies redo change from posted texts coming some (inr pending) = pending

-- what is to come is what the change makes of the area, also where there is none
comes_of : (limit : ℕ) (contents : Option Files) (copies : Option Shadow) (redo : RedoView) (change : Change) (from : Loaded) (posted texts : List ℕ) (coming : Coming)
    → IsNoChange change from texts coming ⊎ IsPending limit contents copies redo change from posted texts coming → coming ≡ coming_of change from posted texts
comes_of limit contents copies redo change from posted texts coming (inl nothing) =
    nothing.same ∙ ap (λ (c : Change). coming_of c from posted texts) (sym nothing.none)
comes_of limit contents copies redo change from posted texts coming (inr pending) =
    ap (λ (l : Loaded). record { to = l; texts = coming.texts }) pending.becomes
    ∙ ap (λ (t : List ℕ). record { to = after change from; texts = t }) pending.texts_are

-- and it fits there
fits_of : (limit : ℕ) (contents : Option Files) (copies : Option Shadow) (redo : RedoView) (change : Change) (from : Loaded) (posted texts : List ℕ) (coming : Coming)
    → IsNoChange change from texts coming ⊎ IsPending limit contents copies redo change from posted texts coming → Fits limit change from
fits_of limit contents copies redo change from posted texts coming (inl nothing) = subst (λ (c : Change). Fits limit c from) (sym nothing.none) tt
fits_of limit contents copies redo change from posted texts coming (inr pending) = pending.fits

-- what is pending is so when a disk was tried that does not begin to tell
pub pending_later : (limit : ℕ) (old new : Device) (copies : Option Shadow) (redo : RedoView) (change : Change) (from : Loaded) (posted texts : List ℕ) (coming : Coming) → TellsAlike old new
    → IsPending limit old.contents copies redo change from posted texts coming → IsPending limit new.contents copies redo change from posted texts coming
pending_later limit old new copies redo change from posted texts coming alike is = record {
  some = is.some;
  becomes = is.becomes;
  texts_are = is.texts_are;
  change = record {
    brings = told_before old new (stays_silent old.contents new.contents alike) (BringsComing redo from texts copies coming) is.change.brings;
    writable = is.change.writable;
  };
  fits = is.fits;
  sound = is.sound;
  sized = is.sized;
  short = is.short;
}

-- the change is done in the files
some_made : (change : Change) (redo : RedoView) (files : Files) → change ≢ Nothing → made change redo files ≡ changed redo files
some_made Nothing redo files some = absurd (some refl)
some_made (Posted message neighbour) redo files some = refl
some_made (Headed at) redo files some = refl
some_made (Edited place message) redo files some = refl
some_made (Killed place) redo files some = refl
some_made (Relinked plan) redo files some = refl
some_made (Marked place mark) redo files some = refl
some_made (Packed plan base) redo files some = refl

-- a change that is done is the next commit, whose record says so
counted_by : (change : Change) (was now : ℕ) (contents : Option Files) → change ≢ Nothing → now ≡ next_commit was → ForSome contents (IsNumbered now) → IsCounted change was now contents
counted_by Nothing was now contents some next numbered = absurd (some refl)
counted_by (Posted message neighbour) was now contents some next numbered = (next, numbered)
counted_by (Headed at) was now contents some next numbered = (next, numbered)
counted_by (Edited place message) was now contents some next numbered = (next, numbered)
counted_by (Killed place) was now contents some next numbered = (next, numbered)
counted_by (Relinked plan) was now contents some next numbered = (next, numbered)
counted_by (Marked place mark) was now contents some next numbered = (next, numbered)
counted_by (Packed plan base) was now contents some next numbered = (next, numbered)

-- what is pending in a sound area may be done in it
pub apply_may : (limit : ℕ) (pending : Pending) (loaded : Loaded) → limit ≤ MOST_SLOTS → IsSound limit loaded → Fits limit pending.change loaded
    → BringsRoom pending.change pending.room loaded → MayApply pending loaded
apply_may limit pending loaded few sound fits room = record {
  sound = sound_under limit MOST_SLOTS loaded few sound;
  fits = fits_under limit MOST_SLOTS pending.change loaded few fits;
  room = room;
}

module _ {D : Type 0} (shown : D → Device) (area : OpenArea D) (reply : Reply) (pending : Pending) (is : area.stage ≡ Begun reply pending) where
  -- a call without a change leaves the files
  pub made_nothing : (disk : D) (held : Loaded) (large : Option RedoView) (stage : Stage) → pending.change ≡ Nothing → disk ≡ area.disk → HasMade shown area (record area { disk = disk; held = held; large = large; stage = stage })
  made_nothing disk held large stage none same was there now here = λ file ne.
      ap (λ (f : Files). f file) (some-same _ _ (sym here ∙ ap (λ (d : D). (shown d).contents) same ∙ there))
      ∙ sym (ap (λ (s : Stage). done_in s (redo_of area) was file) is ∙ ap (λ (c : Change). made c (redo_of area) was file) none)

  -- and takes no number
  pub counted_nothing : (contents : Option Files) → pending.change ≡ Nothing → IsCountedIn area.stage area.commits area.commits contents
  counted_nothing contents none = subst (λ (s : Stage). IsCountedIn s area.commits area.commits contents) (sym is)
      (subst (λ (c : Change). IsCounted c area.commits area.commits contents) (sym none) refl)

  -- while one with a change takes the next
  pub counted_change : (now : ℕ) (redo : RedoView) (contents : Option Files) → pending.change ≢ Nothing → now ≡ next_commit area.commits → ForSome contents (IsRecorded now redo)
      → IsCountedIn area.stage area.commits now contents
  counted_change now redo contents some next recorded = subst (λ (s : Stage). IsCountedIn s area.commits now contents) (sym is)
      (counted_by pending.change area.commits now contents some next (λ files there. numbered_as now redo files (recorded files there)))

  -- and one with a change does it
  pub made_change : (disk : D) (commits packs : ℕ) (held : Loaded) (large : Option RedoView) (packer : Option Shadow) (stage : Stage) (redo : RedoView) → redo ≡ redo_of area → pending.change ≢ Nothing
      → ForSome (shown area.disk).contents (λ was. ForSome (shown disk).contents (λ now. AgreeButJournal now (changed redo was)))
      → HasMade shown area (record area { disk = disk; commits = commits; packs = packs; held = held; large = large; packer = packer; stage = stage })
  made_change disk commits packs held large packer stage redo used some agree was there now here = λ file ne.
      agree was there now here file ne ∙ ap (λ (r : RedoView). changed r was file) used
      ∙ sym (ap (λ (s : Stage). done_in s (redo_of area) was file) is ∙ ap (λ (f : Files). f file) (some_made pending.change (redo_of area) was some))

module _ {D : Type 0} (shown : D → Device) where
  -- the parts of a begun call, whatever shows that it is begun
  module _ (area : OpenArea D) (texts : List ℕ) (decided : Reply) (coming : Coming) (begun : IsBegun shown area texts decided coming) where
    -- the reply that was decided
    pub reply_is : (reply : Reply) (pending : Pending) → area.stage ≡ Begun reply pending → reply ≡ decided
    reply_is reply pending is = same_reply reply decided pending begun.pending (sym is ∙ begun.stage)

    -- what is pending
    pending_is : (reply : Reply) (pending : Pending) → area.stage ≡ Begun reply pending → begun.pending ≡ pending
    pending_is reply pending is = same_pending decided reply begun.pending pending (sym begun.stage ∙ is)

    -- where nothing is pending
    pub none_is : (reply : Reply) (pending : Pending) → area.stage ≡ Begun reply pending → pending.change ≡ Nothing → coming ≡ record { to = area.held; texts = texts }
    none_is reply pending is none =
        none_pending area.rules.slots (shown area.disk).contents area.packer (redo_of area) begun.pending.change area.held begun.posted texts coming
        (ap (λ (p : Pending). p.change) (pending_is reply pending is) ∙ none) begun.change

    -- where something is pending
    pub some_is : (reply : Reply) (pending : Pending) → area.stage ≡ Begun reply pending → pending.change ≢ Nothing
        → IsPending area.rules.slots (shown area.disk).contents area.packer (redo_of area) pending.change area.held begun.posted texts coming
    some_is reply pending is some =
        let same = ap (λ (p : Pending). p.change) (pending_is reply pending is) in
        subst (λ (c : Change). IsPending area.rules.slots (shown area.disk).contents area.packer (redo_of area) c area.held begun.posted texts coming) same
        (some_pending area.rules.slots (shown area.disk).contents area.packer (redo_of area) begun.pending.change area.held begun.posted texts coming (λ none. some (sym same ∙ none)) begun.change)

    -- the same, of the redo that is in use
    pub some_in : (reply : Reply) (pending : Pending) (redo : RedoView) → redo ≡ redo_of area → area.stage ≡ Begun reply pending → pending.change ≢ Nothing
        → IsPending area.rules.slots (shown area.disk).contents area.packer redo pending.change area.held begun.posted texts coming
    some_in reply pending redo used is some =
        subst (λ (r : RedoView). IsPending area.rules.slots (shown area.disk).contents area.packer r pending.change area.held begun.posted texts coming) (sym used) (some_is reply pending is some)

    -- the room that it brings
    room_is : (reply : Reply) (pending : Pending) → area.stage ≡ Begun reply pending → BringsRoom pending.change pending.room area.held
    room_is reply pending is = subst (λ (p : Pending). BringsRoom p.change p.room area.held) (pending_is reply pending is) begun.room

    -- what is to come is what the change makes of the area
    pub becomes_is : (reply : Reply) (pending : Pending) → area.stage ≡ Begun reply pending → coming ≡ coming_of pending.change area.held begun.posted texts
    becomes_is reply pending is =
        subst (λ (p : Pending). coming ≡ coming_of p.change area.held begun.posted texts) (pending_is reply pending is)
        (comes_of area.rules.slots (shown area.disk).contents area.packer (redo_of area) begun.pending.change area.held begun.posted texts coming begun.change)

    -- and it fits there
    pub fits_is : (reply : Reply) (pending : Pending) → area.stage ≡ Begun reply pending → Fits area.rules.slots pending.change area.held
    fits_is reply pending is =
        subst (λ (p : Pending). Fits area.rules.slots p.change area.held) (pending_is reply pending is)
        (fits_of area.rules.slots (shown area.disk).contents area.packer (redo_of area) begun.pending.change area.held begun.posted texts coming begun.change)

    -- where a pack is answered one is pending
    pub packing_is : (reply : Reply) (pending : Pending) → area.stage ≡ Begun reply pending → IsPacked reply → IsPacking pending.change
    packing_is reply pending is packed = subst (λ (p : Pending). IsPacking p.change) (pending_is reply pending is) (packing_told decided begun.pending.change begun.told (subst IsPacked (reply_is reply pending is) packed))

    -- a call without a change is finished
    pub rests_unchanged : (reply : Reply) (pending : Pending) (large : Option RedoView) (stage : Stage) → area.stage ≡ Begun reply pending → pending.change ≡ Nothing → large ≡ None → stage ≡ Resting
        → (reply ≡ decided) × RestsAt shown (record area { large = large; stage = stage }) coming.texts coming.to
    rests_unchanged reply pending large stage is none small resting =
        let same = none_is reply pending is none in (
          reply_is reply pending is,
          subst (λ (c : Coming). RestsAt shown (record area { large = large; stage = stage }) c.texts c.to) (sym same)
              (record { rests = record { stage = resting; small = small; kept = record { ruled = record { few_slots = begun.kept.ruled.few_slots; address = begun.kept.ruled.address; sound = begun.kept.ruled.sound; sized = begun.kept.ruled.sized; room = begun.kept.ruled.room }; settled = begun.kept.settled; copies = begun.kept.copies } }; is = refl }),
        )

    -- what holds before a commit
    pub settled_with : IsSettledWith area.held texts area.packer (shown area.disk)
    settled_with = record { settled = begun.kept.settled; has = begun.kept.copies }

    -- and a call with one
    pub rests_changed : (reply : Reply) (pending : Pending) (disk : D) (commits packs : ℕ) (held : Loaded) (large : Option RedoView) (packer : Option Shadow) (stage : Stage) (redo : RedoView) → redo ≡ redo_of area → area.stage ≡ Begun reply pending → pending.change ≢ Nothing
        → large ≡ None → packer ≡ copied_after pending.change area.packer → stage ≡ Resting
        → held ≡ after pending.change area.held → TellsAlike (shown area.disk) (shown disk)
        → ForSome (shown area.disk).contents (λ was. ForSome (shown disk).contents (λ now. AgreeButJournal now (changed redo was)))
        → ((from : Loaded) (texts : List ℕ) (copies : Option Shadow) (coming : Coming) → IsSettledWith from texts copies (shown area.disk) → IsChange (shown area.disk).contents redo from texts copies coming → IsSettledAs coming.to coming.texts (shown disk))
        → (reply ≡ decided) × RestsAt shown (record area { disk = disk; commits = commits; packs = packs; held = held; large = large; packer = packer; stage = stage }) coming.texts coming.to
    rests_changed reply pending disk commits packs held large packer stage redo used is some small copied resting applied alike made done =
        let change = some_in reply pending redo used is some in
        let to : coming.to ≡ held = change.becomes ∙ sym applied in
        let settled : IsSettledAs coming.to coming.texts (shown disk) = done area.held texts area.packer coming settled_with change.change in (
          reply_is reply pending is,
          record {
            rests = record {
              stage = resting;
              small = small;
              kept = record {
                ruled = record { few_slots = begun.kept.ruled.few_slots; address = begun.kept.ruled.address; sound = subst (IsSound area.rules.slots) to change.sound; sized = change.sized ∙ ap (λ (l : Loaded). l.texts_len) to; room = begun.kept.ruled.room };
                settled = subst (λ (l : Loaded). IsSettledAs l coming.texts (shown disk)) to settled;
                copies = λ now here.
                    told_before (shown area.disk) (shown disk) (stays_silent (shown area.disk).contents (shown disk).contents alike) (HoldsCopies packer now) (λ was there.
                    subst (λ (c : Option Shadow). HoldsCopies c now) (sym copied)
                    (after_has pending.change redo area.held texts area.packer coming was now
                    (keeps_texts area.rules.slots (shown area.disk).contents area.packer redo pending.change area.held begun.posted texts coming change) (change.change.brings was there)
                    (begun.kept.settled.rests was there).holds (begun.kept.copies was there) (settled.rests now here).holds (made was there now here))) now here;
              };
            };
            is = sym to;
          },
        )

    -- after a pack the journal is short
    pub short_after : (reply : Reply) (pending : Pending) (disk : D) (number : ℕ) (redo : RedoView) → redo ≡ redo_of area → area.stage ≡ Begun reply pending → pending.change ≢ Nothing → IsPacking pending.change
        → ((from : Loaded) (texts : List ℕ) (copies : Option Shadow) (coming : Coming) → IsSettledWith from texts copies (shown area.disk) → IsChange (shown area.disk).contents redo from texts copies coming → IsSettledAs coming.to coming.texts (shown disk))
        → ForSome (shown disk).contents (IsRecorded number redo) → ForSome (shown disk).contents HasShortJournal
    short_after reply pending disk number redo used is some packing done recorded files there =
        let change = some_in reply pending redo used is some in
        let settled : IsSettledAs coming.to coming.texts (shown disk) = done area.held texts area.packer coming settled_with change.change in
        let loads = (settled.rests files there).holds.loads in
        let record_is = short_record pending.change redo coming.to packing change.short in
        let journal = recorded_size number redo files (settled.rests files there).plain.long (recorded files there) in
        let headers = loads.headers_len in
        let index = loads.index in
        omega (arith, record_is, journal, headers, index)

    -- a call that was stopped is in doubt
    pub between : (reply : Reply) (pending : Pending) (disk : D) (commits : ℕ) (large : Option RedoView) (stage : Stage) (redo : RedoView) (stopped : Stopped) → stage ≡ Doubtful stopped pending → redo ≡ redo_of area → redo ≡ redo_in large area.redo → area.stage ≡ Begun reply pending
        → pending.change ≢ Nothing → TellsAlike (shown area.disk) (shown disk)
        → ((from : Loaded) (texts : List ℕ) (copies : Option Shadow) (coming : Coming) → IsSettledWith from texts copies (shown area.disk) → IsChange (shown area.disk).contents redo from texts copies coming → IsStoppedAs stopped redo from texts copies (shown disk))
        → IsBetween shown (record area { disk = disk; commits = commits; large = large; stage = stage }) texts coming
    between reply pending disk commits large stage redo stopped doubtful used kept is some alike doubt =
        let change = some_in reply pending redo used is some in
        record {
          stopped = stopped;
          posted = begun.posted;
          pending = pending;
          stage = doubtful;
          ruled = record { few_slots = begun.kept.ruled.few_slots; address = begun.kept.ruled.address; sound = begun.kept.ruled.sound; sized = begun.kept.ruled.sized; room = begun.kept.ruled.room };
          change = subst (λ (r : RedoView). IsPending area.rules.slots (shown disk).contents area.packer r pending.change area.held begun.posted texts coming) kept
              (pending_later area.rules.slots (shown area.disk) (shown disk) area.packer redo pending.change area.held begun.posted texts coming alike change);
          room = room_is reply pending is;
          doubt = subst (λ (r : RedoView). IsStoppedAs stopped r area.held texts area.packer (shown disk)) kept (doubt area.held texts area.packer coming settled_with change.change);
        }

    -- the change may be committed
    pub may_commit : (reply : Reply) (pending : Pending) (redo : RedoView) → redo ≡ redo_of area → area.stage ≡ Begun reply pending → pending.change ≢ Nothing → MayCommit redo (shown area.disk)
    may_commit reply pending redo used is some = record { from = area.held; texts = texts; copies = area.packer; coming = coming; settled = settled_with; change = (some_in reply pending redo used is some).change }

    -- it may be done in what is loaded
    pub may_apply : (reply : Reply) (pending : Pending) → area.stage ≡ Begun reply pending → MayApply pending area.held
    may_apply reply pending is =
        apply_may area.rules.slots pending area.held begun.kept.ruled.few_slots begun.kept.ruled.sound (fits_is reply pending is) (room_is reply pending is)
