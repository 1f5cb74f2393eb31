-- What a settling makes of an area in doubt.
use Rattle.std.proofs.Common.{◌≡◌, ◌≢◌, ◌⊎◌, inl, inr, ℕ, List, Option, None, Some, true, false, ap, sym, refl, ◌∙◌, subst}
use Rattle.std.specs.Option.{ForSome}
use Rattle.jb_disk.specs.RedoView.{RedoView}
use Rattle.jb_disk.specs.Device.{Device, TellsAlike}
use Rattle.jb_disk.specs.Files.{Files}
use Rattle.jb_disk.specs.Runs.{LeavesOnly}
use Rattle.jb_disk.proofs.RunLemmas.{runs-refl}
use Rattle.jb_journal.specs.declared.stopped.Stopped.{Stopped}
use Rattle.jb_journal.specs.declared.stopped.Stopped.TheVariants.{Early, Late}
use Rattle.jb_held.specs.Pending.{BringsRoom, MayApply, no_room}
use Rattle.jb_held.specs.declared.pending.Pending.{Pending}
use Rattle.jb_state.specs.Change.{after}
use Rattle.jb_state.specs.Sound.{IsSound}
use Rattle.jb_state.specs.declared.change.Change.TheVariants.{Nothing}
use Rattle.jb_state.specs.declared.loaded.Loaded.{Loaded}
use Rattle.jb_pack.specs.Shadow.{Shadow}
use Rattle.jb_decide.specs.Coming.{Coming, IsChange}
use Rattle.jb_decide.specs.Decided.{IsPending}
use Rattle.jb_decide.specs.Holds.{HoldsCopies}
use Rattle.jb_area.specs.Area.{redo_in, redo_of, stopped_in, stopped_of, DoubtOpens, IsBetween, IsDoubtful, IsHalfCopied, IsUnchanged, RestsAt, SettlesAt}
use Rattle.jb_area.specs.Commits.{IsAnsweredAs, IsCopyingAs, IsSettledAs, IsStoppedAs, MaySettle, StandsFirm, StandsLate, StopsAgain}
use Rattle.jb_area.specs.Holds.{Opens, OpensToEither}
use Rattle.jb_area.specs.declared.area.OpenArea.{OpenArea}
use Rattle.jb_area.specs.declared.stage.Stage.{Stage}
use Rattle.jb_area.specs.declared.stage.Stage.TheVariants.{Resting, Doubtful, Copying}
use Rattle.jb_area.proofs.CommitLemmas.{late_stands, settled_opens, stopped_opens}
use Rattle.jb_area.proofs.CopyingLemmas.{copying_opens}
use Rattle.jb_area.proofs.HoldLemmas.{rest_opens}
use Rattle.jb_area.proofs.StageLemmas.{apply_may, pending_later}

-- two doubtful stages are one
same_stopped : (one other : Stopped) (first second : Pending) → Doubtful one first ≡ Doubtful other second → one ≡ other
same_stopped one other first second is = cc

same_pending : (one other : Stopped) (first second : Pending) → Doubtful one first ≡ Doubtful other second → first ≡ second
same_pending one other first second is = cc

-- a copying is no call that was stopped
pub no_copying : (stopped : Stopped) (pending : Pending) → Copying ≡ Doubtful stopped pending → ⊥
no_copying stopped pending is = cc

-- an area in doubt is at that stage, or at a copying
pub at_doubt : {D : Type 0} (shown : D → Device) (area : OpenArea D) (texts : List ℕ) (coming : Option Coming) → IsDoubtful shown area texts coming
    → ((stopped : Stopped) × (pending : Pending) × (area.stage ≡ Doubtful stopped pending)) ⊎ (area.stage ≡ Copying)
at_doubt shown area texts None (inl unchanged) = inl (Early, record { change = Nothing; room = no_room }, unchanged.stage)
at_doubt shown area texts None (inr half) = inr half.stage
at_doubt shown area texts (Some coming) doubt = inl (doubt.stopped, doubt.pending, doubt.stage)

-- what is read of an area in doubt opens to one of the two
pub doubt_reads : {D : Type 0} (shown : D → Device) (area : OpenArea D) (texts : List ℕ) (coming : Option Coming) → IsDoubtful shown area texts coming
    → ForSome (shown area.disk).contents (DoubtOpens area.held texts coming)
doubt_reads shown area texts None (inl unchanged) = λ files there. rest_opens area.held texts files (unchanged.kept.settled.rests files there)
doubt_reads shown area texts None (inr half) = copying_opens area.held texts (shown area.disk) half.copying
doubt_reads shown area texts (Some coming) doubt = stopped_opens (redo_of area) doubt.stopped (shown area.disk) area.held texts area.packer coming doubt.doubt doubt.change.change

-- and after a late stop the change stands
pub doubt_stands : {D : Type 0} (shown : D → Device) (area : OpenArea D) (texts : List ℕ) (coming : Coming) → IsBetween shown area texts coming → StandsLate (stopped_of area) coming (shown area.disk)
doubt_stands shown area texts coming doubt = subst (λ (s : Stopped). StandsLate s coming (shown area.disk)) (sym (ap stopped_in doubt.stage))
    (late_stands (redo_of area) doubt.stopped (shown area.disk) area.held texts area.packer coming doubt.doubt doubt.change.change)

-- an early stop is no late one
pub early_late : Early ≡ Late → ⊥
early_late is = cc

-- an area of which a copying was stopped
module _ {D : Type 0} (shown : D → Device) (area : OpenArea D) (is : area.stage ≡ Copying) where
  -- no change is in doubt
  pub half_copied : (texts : List ℕ) (coming : Option Coming) → IsDoubtful shown area texts coming → IsHalfCopied shown area texts × (coming ≡ None)
  half_copied texts None (inl unchanged) = absurd (no_copying Early (record { change = Nothing; room = no_room }) (sym is ∙ unchanged.stage))
  half_copied texts None (inr half) = (half, refl)
  half_copied texts (Some coming) doubt = absurd (no_copying doubt.stopped doubt.pending (sym is ∙ doubt.stage))

  -- whose journal has its gate closed, where a stop is early
  pub copying_again : (new : Device) (again : Stopped) → again ≡ Early → (texts : List ℕ) (coming : Option Coming) → IsDoubtful shown area texts coming → StopsAgain (stopped_of area) again (shown area.disk) new
  copying_again new again early texts coming doubt = record {
    late_stays = λ late. absurd (early_late (sym (ap stopped_in is) ∙ late));
    late_by = λ was late. absurd (early_late (sym early ∙ late));
    early_by = λ here files there opened. absurd (((half_copied texts coming doubt).0.copying.rests files there).plain.shut opened.gate);
  }

  -- no change of it stands firm
  pub copying_firm : (new : Device) (coming : Coming) → StandsFirm (stopped_of area) coming (shown area.disk) new
  copying_firm new coming = subst (λ (s : Stopped). StandsFirm s coming (shown area.disk) new) (sym (ap stopped_in is)) tt

  -- nor stands one
  pub copying_late : (new : Device) (again : Stopped) → again ≡ Early → (coming : Coming) → StandsLate again coming new
  copying_late new again early coming = subst (λ (s : Stopped). StandsLate s coming new) (sym early) tt

  -- once .NDT is empty and synced it is at rest, and keeps no copies
  pub copying_settles : (disk : D) (large : Option RedoView) (packer : Option Shadow) (stage : Stage) → large ≡ None → packer ≡ None → stage ≡ Resting
      → ((loaded : Loaded) (texts : List ℕ) → IsCopyingAs loaded texts (shown area.disk) → IsSettledAs loaded texts (shown disk))
      → (texts : List ℕ) (coming : Option Coming) → IsDoubtful shown area texts coming
      → RestsAt shown (record area { disk = disk; large = large; packer = packer; stage = stage }) texts area.held
  copying_settles disk large packer stage small none resting settled texts coming doubt =
      let half = (half_copied texts coming doubt).0 in
      record {
        rests = record {
          stage = resting;
          small = small;
          kept = record {
            ruled = record { few_slots = half.ruled.few_slots; address = half.ruled.address; sound = half.ruled.sound; sized = half.ruled.sized; room = half.ruled.room };
            settled = settled area.held texts half.copying;
            copies = λ files there. subst (λ (c : Option Shadow). HoldsCopies c files) (sym none) tt;
          };
        };
        is = refl;
      }

  -- where that was stopped it is in doubt as before
  pub copying_still : (disk : D) → ((loaded : Loaded) (texts : List ℕ) → IsCopyingAs loaded texts (shown area.disk) → IsCopyingAs loaded texts (shown disk))
      → (texts : List ℕ) (coming : Option Coming) → IsDoubtful shown area texts coming → IsDoubtful shown (record area { disk = disk }) texts coming
  copying_still disk still texts coming doubt =
      let so = half_copied texts coming doubt in
      subst (λ (c : Option Coming). IsDoubtful shown (record area { disk = disk }) texts c) (sym so.1)
      (inr (record {
        stage = is;
        ruled = record { few_slots = so.0.ruled.few_slots; address = so.0.ruled.address; sound = so.0.ruled.sound; sized = so.0.ruled.sized; room = so.0.ruled.room };
        copying = still area.held texts so.0.copying;
      }))

  -- whenever a crash comes
  pub copying_crashes : (new : Device)
      → ((loaded : Loaded) (texts : List ℕ) → IsCopyingAs loaded texts (shown area.disk) → (was : Files) → (shown area.disk).contents ≡ Some was → LeavesOnly (shown area.disk) new (Opens loaded texts))
      → (texts : List ℕ) (coming : Option Coming) → IsDoubtful shown area texts coming → (was : Files) → (shown area.disk).contents ≡ Some was
      → LeavesOnly (shown area.disk) new (DoubtOpens area.held texts coming)
  copying_crashes new crash texts coming doubt was there =
      let so = half_copied texts coming doubt in
      subst (λ (c : Option Coming). LeavesOnly (shown area.disk) new (DoubtOpens area.held texts c)) (sym so.1) (crash area.held texts so.0.copying was there)

module _ {D : Type 0} (shown : D → Device) (area : OpenArea D) (stopped : Stopped) (pending : Pending) (is : area.stage ≡ Doubtful stopped pending) where
  -- a call that had no change
  module _ (none : pending.change ≡ Nothing) where
    -- has none to come
    unchanged : (texts : List ℕ) (coming : Option Coming) → IsDoubtful shown area texts coming → IsUnchanged shown area texts × (coming ≡ None)
    unchanged texts None (inl still) = (still, refl)
    unchanged texts None (inr half) = absurd (no_copying stopped pending (sym half.stage ∙ is))
    unchanged texts (Some coming) doubt = absurd (doubt.change.some (ap (λ (p : Pending). p.change) (same_pending doubt.stopped stopped doubt.pending pending (sym doubt.stage ∙ is)) ∙ none))

    -- and was stopped early
    pub unchanged_early : (texts : List ℕ) (coming : Option Coming) → IsDoubtful shown area texts coming → stopped_of area ≡ Early
    unchanged_early texts coming doubt = ap stopped_in (unchanged texts coming doubt).0.stage

    pub unchanged_firm : (coming : Coming) (texts : List ℕ) → IsBetween shown area texts coming → StandsFirm (stopped_of area) coming (shown area.disk) (shown area.disk)
    unchanged_firm coming texts doubt = absurd (doubt.change.some (ap (λ (p : Pending). p.change) (same_pending doubt.stopped stopped doubt.pending pending (sym doubt.stage ∙ is)) ∙ none))

    -- and is at rest as before, and keeps no copies
    pub drops : (large : Option RedoView) (packer : Option Shadow) (stage : Stage) → large ≡ None → packer ≡ None → stage ≡ Resting → (texts : List ℕ) (coming : Option Coming) → IsDoubtful shown area texts coming
        → RestsAt shown (record area { large = large; packer = packer; stage = stage }) texts area.held
    drops large packer stage small no_copies resting texts coming doubt =
        let kept = (unchanged texts coming doubt).0.kept in
        record {
          rests = record {
            stage = resting;
            small = small;
            kept = record {
              ruled = record { few_slots = kept.ruled.few_slots; address = kept.ruled.address; sound = kept.ruled.sound; sized = kept.ruled.sized; room = kept.ruled.room };
              settled = kept.settled;
              copies = λ files there. subst (λ (c : Option Shadow). HoldsCopies c files) (sym no_copies) tt;
            };
          };
          is = refl;
        }

    -- and leaves the area as it is, whenever a crash comes
    pub idle : (texts : List ℕ) (coming : Option Coming) → IsDoubtful shown area texts coming → (was : Files) → (shown area.disk).contents ≡ Some was
        → LeavesOnly (shown area.disk) (shown area.disk) (DoubtOpens area.held texts coming)
    idle texts coming doubt was there =
        let so = unchanged texts coming doubt in
        subst (λ (c : Option Coming). LeavesOnly (shown area.disk) (shown area.disk) (DoubtOpens area.held texts c)) (sym so.1)
        (record { first = settled_opens area.held texts (shown area.disk) was there so.0.kept.settled; run = runs-refl (Opens area.held texts) _ _ refl })

  -- a call that had one
  module _ (some : pending.change ≢ Nothing) where
    -- nothing else was to come
    no_none : (texts : List ℕ) → IsUnchanged shown area texts ⊎ IsHalfCopied shown area texts → ⊥
    no_none texts (inl unchanged) =
        some (ap (λ (p : Pending). p.change) (same_pending stopped Early pending _ (sym is ∙ unchanged.stage)))
    no_none texts (inr half) = no_copying stopped pending (sym half.stage ∙ is)

    -- what is in doubt
    doubt_is : (texts : List ℕ) (coming : Coming) → IsBetween shown area texts coming → IsStoppedAs stopped (redo_of area) area.held texts area.packer (shown area.disk)
    doubt_is texts coming between =
        subst (λ (s : Stopped). IsStoppedAs s (redo_of area) area.held texts area.packer (shown area.disk)) (same_stopped between.stopped stopped between.pending pending (sym between.stage ∙ is)) between.doubt

    -- what is to come
    change_is : (texts : List ℕ) (coming : Coming) (between : IsBetween shown area texts coming)
        → IsPending area.rules.slots (shown area.disk).contents area.packer (redo_of area) pending.change area.held between.posted texts coming
    change_is texts coming between =
        subst (λ (p : Pending). IsPending area.rules.slots (shown area.disk).contents area.packer (redo_of area) p.change area.held between.posted texts coming)
        (same_pending between.stopped stopped between.pending pending (sym between.stage ∙ is)) between.change

    -- the room that it brings
    room_is : (texts : List ℕ) (coming : Coming) (between : IsBetween shown area texts coming) → BringsRoom pending.change pending.room area.held
    room_is texts coming between =
        subst (λ (p : Pending). BringsRoom p.change p.room area.held) (same_pending between.stopped stopped between.pending pending (sym between.stage ∙ is)) between.room

    -- it may be done in what is loaded
    pub may_apply : (texts : List ℕ) (coming : Option Coming) → IsDoubtful shown area texts coming → MayApply pending area.held
    may_apply texts None doubt = absurd (no_none texts doubt)
    may_apply texts (Some coming) doubt =
        apply_may area.rules.slots pending area.held doubt.ruled.few_slots doubt.ruled.sound (change_is texts coming doubt).fits (room_is texts coming doubt)

    -- of the redo that is in use
    module _ (redo : RedoView) (used : redo ≡ redo_of area) where
      -- what is in doubt
      doubt_in : (texts : List ℕ) (coming : Coming) → IsBetween shown area texts coming → IsStoppedAs stopped redo area.held texts area.packer (shown area.disk)
      doubt_in texts coming between = subst (λ (r : RedoView). IsStoppedAs stopped r area.held texts area.packer (shown area.disk)) (sym used) (doubt_is texts coming between)

      -- what is to come
      change_in : (texts : List ℕ) (coming : Coming) (between : IsBetween shown area texts coming)
          → IsPending area.rules.slots (shown area.disk).contents area.packer redo pending.change area.held between.posted texts coming
      change_in texts coming between =
          subst (λ (r : RedoView). IsPending area.rules.slots (shown area.disk).contents area.packer r pending.change area.held between.posted texts coming) (sym used) (change_is texts coming between)

      -- it may be settled
      pub may_settle : (texts : List ℕ) (coming : Option Coming) → IsDoubtful shown area texts coming → MaySettle stopped redo (shown area.disk)
      may_settle texts None doubt = absurd (no_none texts doubt)
      may_settle texts (Some coming) doubt = record {
        from = area.held;
        texts = texts;
        copies = area.packer;
        coming = coming;
        doubt = doubt_in texts coming doubt;
        change = (change_in texts coming doubt).change;
      }

      -- settled with the change
      pub stands : (disk : D) (packs : ℕ) (held : Loaded) (large : Option RedoView) (packer : Option Shadow) (stage : Stage) → large ≡ None → packer ≡ None → stage ≡ Resting → held ≡ after pending.change area.held
          → ((from : Loaded) (texts : List ℕ) (copies : Option Shadow) (coming : Coming) → IsStoppedAs stopped redo from texts copies (shown area.disk) → IsChange (shown area.disk).contents redo from texts copies coming → IsAnsweredAs true from texts coming (shown disk))
          → (texts : List ℕ) (coming : Option Coming) → IsDoubtful shown area texts coming
          → SettlesAt shown true area.held texts coming (record area { disk = disk; packs = packs; held = held; large = large; packer = packer; stage = stage })
      stands disk packs held large packer stage small none resting applied answer texts None doubt = no_none texts doubt
      stands disk packs held large packer stage small none resting applied answer texts (Some coming) doubt =
          let change = change_in texts coming doubt in
          let to : coming.to ≡ held = change.becomes ∙ sym applied in
          record {
            rests = record {
              stage = resting;
              small = small;
              kept = record {
                ruled = record { few_slots = doubt.ruled.few_slots; address = doubt.ruled.address; sound = subst (IsSound area.rules.slots) to change.sound; sized = change.sized ∙ ap (λ (l : Loaded). l.texts_len) to; room = doubt.ruled.room };
                settled = subst (λ (l : Loaded). IsSettledAs l coming.texts (shown disk)) to (answer area.held texts area.packer coming (doubt_in texts coming doubt) change.change);
                copies = λ files there. subst (λ (c : Option Shadow). HoldsCopies c files) (sym none) tt;
              };
            };
            is = sym to;
          }

      -- settled without it
      pub falls : (disk : D) (large : Option RedoView) (packer : Option Shadow) (stage : Stage) → large ≡ None → packer ≡ None → stage ≡ Resting
          → ((from : Loaded) (texts : List ℕ) (copies : Option Shadow) (coming : Coming) → IsStoppedAs stopped redo from texts copies (shown area.disk) → IsChange (shown area.disk).contents redo from texts copies coming → IsAnsweredAs false from texts coming (shown disk))
          → (texts : List ℕ) (coming : Option Coming) → IsDoubtful shown area texts coming
          → RestsAt shown (record area { disk = disk; large = large; packer = packer; stage = stage }) texts area.held
      falls disk large packer stage small none resting answer texts None doubt = absurd (no_none texts doubt)
      falls disk large packer stage small none resting answer texts (Some coming) doubt = record {
        rests = record {
          stage = resting;
          small = small;
          kept = record {
            ruled = record { few_slots = doubt.ruled.few_slots; address = doubt.ruled.address; sound = doubt.ruled.sound; sized = doubt.ruled.sized; room = doubt.ruled.room };
            settled = answer area.held texts area.packer coming (doubt_in texts coming doubt) (change_in texts coming doubt).change;
            copies = λ files there. subst (λ (c : Option Shadow). HoldsCopies c files) (sym none) tt;
          };
        };
        is = refl;
      }

      -- after a late stop the change stands, whenever a crash comes
      pub firm : (new : Device)
          → ((from : Loaded) (texts : List ℕ) (copies : Option Shadow) (coming : Coming) → IsStoppedAs stopped redo from texts copies (shown area.disk) → IsChange (shown area.disk).contents redo from texts copies coming → StandsFirm stopped coming (shown area.disk) new)
          → (texts : List ℕ) (coming : Coming) → IsBetween shown area texts coming → StandsFirm (stopped_of area) coming (shown area.disk) new
      firm new leaves texts coming doubt = subst (λ (s : Stopped). StandsFirm s coming (shown area.disk) new) (sym (ap stopped_in is))
          (leaves area.held texts area.packer coming (doubt_in texts coming doubt) (change_in texts coming doubt).change)

      -- stopped again
      pub still : (disk : D) (large : Option RedoView) (stage : Stage) (again : Stopped) → stage ≡ Doubtful again pending → redo ≡ redo_in large area.redo → TellsAlike (shown area.disk) (shown disk)
          → ((from : Loaded) (texts : List ℕ) (copies : Option Shadow) (coming : Coming) → IsStoppedAs stopped redo from texts copies (shown area.disk) → IsChange (shown area.disk).contents redo from texts copies coming → IsStoppedAs again redo from texts copies (shown disk))
          → (texts : List ℕ) (coming : Option Coming) → IsDoubtful shown area texts coming
          → IsDoubtful shown (record area { disk = disk; large = large; stage = stage }) texts coming
      still disk large stage again doubtful kept alike answer texts None doubt = absurd (no_none texts doubt)
      still disk large stage again doubtful kept alike answer texts (Some coming) doubt =
          let change = change_in texts coming doubt in
          record {
            stopped = again;
            posted = doubt.posted;
            pending = pending;
            stage = doubtful;
            ruled = record { few_slots = doubt.ruled.few_slots; address = doubt.ruled.address; sound = doubt.ruled.sound; sized = doubt.ruled.sized; room = doubt.ruled.room };
            change = subst (λ (r : RedoView). IsPending area.rules.slots (shown disk).contents area.packer r pending.change area.held doubt.posted texts coming) kept
                (pending_later area.rules.slots (shown area.disk) (shown disk) area.packer redo pending.change area.held doubt.posted texts coming alike change);
            room = room_is texts coming doubt;
            doubt = subst (λ (r : RedoView). IsStoppedAs again r area.held texts area.packer (shown disk)) kept (answer area.held texts area.packer coming (doubt_in texts coming doubt) change.change);
          }

      -- whenever a crash comes
      pub crashes : (new : Device)
          → ((from : Loaded) (texts : List ℕ) (copies : Option Shadow) (coming : Coming) → IsStoppedAs stopped redo from texts copies (shown area.disk) → IsChange (shown area.disk).contents redo from texts copies coming
          → (was : Files) → (shown area.disk).contents ≡ Some was → LeavesOnly (shown area.disk) new (OpensToEither from texts coming))
          → (texts : List ℕ) (coming : Option Coming) → IsDoubtful shown area texts coming → (was : Files) → (shown area.disk).contents ≡ Some was
          → LeavesOnly (shown area.disk) new (DoubtOpens area.held texts coming)
      crashes new crash texts None doubt was there = absurd (no_none texts doubt)
      crashes new crash texts (Some coming) doubt was there = crash area.held texts area.packer coming (doubt_in texts coming doubt) (change_in texts coming doubt).change was there
