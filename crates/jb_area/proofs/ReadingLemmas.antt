-- What stays of an open area while its files are read.
use Rattle.std.proofs.Common.{◌≡◌, ◌⊎◌, inl, inr, ℕ, List, Option, None, Some, refl, sym, ◌∙◌, subst}
use Rattle.jb_disk.specs.Device.{Device, OnlyReads}
use Rattle.jb_disk.specs.Files.{Files}
use Rattle.jb_disk.specs.RedoView.{RedoView}
use Rattle.jb_disk.specs.Runs.{LeavesNow, Shows}
use Rattle.jb_decide.specs.Coming.{Coming}
use Rattle.jb_decide.specs.Decided.{IsNoChange, IsPending}
use Rattle.jb_journal.specs.Doubt.{IsInDoubt}
use Rattle.jb_journal.specs.declared.stopped.Stopped.{Stopped}
use Rattle.jb_model.specs.declared.reply.Reply.{Reply}
use Rattle.jb_pack.specs.Shadow.{Shadow}
use Rattle.jb_pack.specs.Touching.{AgreeButShadow}
use Rattle.jb_state.specs.declared.loaded.Loaded.{Loaded}
use Rattle.jb_area.specs.Area.{redo_of, IsBegun, IsBetween, IsDoubtful, IsHeldByFiles, IsResting, IsSoundFor}
use Rattle.jb_area.specs.Backups.{ReadingsKeepAreas, StandsAsBefore}
use Rattle.jb_area.specs.Commits.{IsCopyingAs, IsSettledAs, IsStoppedAs}
use Rattle.jb_area.specs.declared.area.OpenArea.{OpenArea}

-- a device that is only read
module _ (old new : Device) (reads : OnlyReads old new) where
  -- shows what it did
  shows_read : (P : Files → Type 0) → Shows P old → Shows P new
  shows_read P shows = record { read = λ files there. shows.read files (sym reads.contents ∙ there); left = subst (LeavesNow P) (sym reads.moments) shows.left }

  -- is settled as before
  settled_read : (loaded : Loaded) (texts : List ℕ) → IsSettledAs loaded texts old → IsSettledAs loaded texts new
  settled_read loaded texts settled = record {
    rests = λ files there. settled.rests files (sym reads.contents ∙ there);
    synced = λ files there. subst (LeavesNow (λ left. left ≡ files)) (sym reads.moments) (settled.synced files (sym reads.contents ∙ there));
  }

  -- has the same on its way
  copying_read : (loaded : Loaded) (texts : List ℕ) → IsCopyingAs loaded texts old → IsCopyingAs loaded texts new
  copying_read loaded texts copying = record {
    rests = λ files there. copying.rests files (sym reads.contents ∙ there);
    synced = λ files there. subst (LeavesNow (AgreeButShadow files)) (sym reads.moments) (copying.synced files (sym reads.contents ∙ there));
  }

  -- and stands where a commit was stopped
  stopped_read : (stopped : Stopped) (redo : RedoView) (from : Loaded) (texts : List ℕ) (copies : Option Shadow) → IsStoppedAs stopped redo from texts copies old → IsStoppedAs stopped redo from texts copies new
  stopped_read stopped redo from texts copies is = λ files there.
      let was = is files (sym reads.contents ∙ there) in
      record {
        number = was.number;
        numbered = was.numbered;
        start = was.start;
        rests = was.rests;
        has = was.has;
        shows = shows_read (IsInDoubt stopped was.number redo was.start) was.shows;
      }

module _ {D : Type 0} (shown : D → Device) (area : OpenArea D) (disk : D) (reads : OnlyReads (shown area.disk) (shown disk)) where
  -- the area over its disk as that was read
  abbrev read : OpenArea D
  read = record area { disk = disk }

  sound_read : (texts : List ℕ) → IsSoundFor area texts → IsSoundFor read texts
  sound_read texts is = record { few_slots = is.few_slots; address = is.address; sound = is.sound; sized = is.sized; room = is.room }

  held_read : (texts : List ℕ) → IsHeldByFiles shown area texts → IsHeldByFiles shown read texts
  held_read texts held = record {
    ruled = sound_read texts held.ruled;
    settled = settled_read (shown area.disk) (shown disk) reads area.held texts held.settled;
    copies = λ files there. held.copies files (sym reads.contents ∙ there);
  }

  rests_read : (texts : List ℕ) → IsResting shown area texts → IsResting shown read texts
  rests_read texts resting = record { stage = resting.stage; small = resting.small; kept = held_read texts resting.kept }

  begun_read : (texts : List ℕ) (reply : Reply) (coming : Coming) → IsBegun shown area texts reply coming → IsBegun shown read texts reply coming
  begun_read texts reply coming begun = record {
    posted = begun.posted;
    pending = begun.pending;
    stage = begun.stage;
    kept = held_read texts begun.kept;
    change = subst (λ (c : Option Files). IsNoChange begun.pending.change area.held texts coming
        ⊎ IsPending area.rules.slots c area.packer (redo_of area) begun.pending.change area.held begun.posted texts coming) (sym reads.contents) begun.change;
    room = begun.room;
    told = begun.told;
  }

  between_read : (texts : List ℕ) (coming : Coming) → IsBetween shown area texts coming → IsBetween shown read texts coming
  between_read texts coming between = record {
    stopped = between.stopped;
    posted = between.posted;
    pending = between.pending;
    stage = between.stage;
    ruled = sound_read texts between.ruled;
    change = subst (λ (c : Option Files). IsPending area.rules.slots c area.packer (redo_of area) between.pending.change area.held between.posted texts coming) (sym reads.contents) between.change;
    room = between.room;
    doubt = stopped_read (shown area.disk) (shown disk) reads between.stopped (redo_of area) area.held texts area.packer between.doubt;
  }

  doubt_read : (texts : List ℕ) (coming : Option Coming) → IsDoubtful shown area texts coming → IsDoubtful shown read texts coming
  doubt_read texts None (inl unchanged) = inl (record { stage = unchanged.stage; kept = held_read texts unchanged.kept })
  doubt_read texts None (inr half) =
      inr (record { stage = half.stage; ruled = sound_read texts half.ruled; copying = copying_read (shown area.disk) (shown disk) reads area.held texts half.copying })
  doubt_read texts (Some coming) between = between_read texts coming between

  -- all of it stays
  stands_read : StandsAsBefore shown area read
  stands_read = record {
    rests = rests_read;
    begun = begun_read;
    doubt = doubt_read;
    loaded = refl;
    rules = refl;
    commits = refl;
    packs = refl;
    packs_to = refl;
    copies = refl;
    stopped = refl;
    room = refl;
  }

-- an area of which nothing changed but that its disk was read stands as before
pub readings_keep : {D : Type 0} (shown : D → Device) → ReadingsKeepAreas shown
readings_keep shown old new same reads = subst (StandsAsBefore shown old) (sym same) (stands_read shown old new.disk reads)
