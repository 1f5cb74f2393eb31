-- A step of a pack, and a pack behind one.
use Rattle.std.proofs.Common.{◌≡◌, ◌≢◌, inr, ℕ, Bool, false, nat_lt, ltb-false, List, Option, None, Some, Result, Ok, Err, IfErr, IfOk, OnOk, ap, refl, sym, ◌∙◌, subst, arith}
use Rattle.std.specs.Option.{ForSome}
use Rattle.jb_base.specs.declared.area.AreaRules.{AreaRules}
use Rattle.jb_base.specs.declared.user.User.{User}
use Rattle.jb_decide.specs.Errors.{is_area_fault}
use Rattle.jb_decide.specs.Holds.{HoldsCopies}
use Rattle.jb_decide.specs.Packs.{MayPack}
use Rattle.jb_decide.specs.declared.decided.Decided.{Decided}
use Rattle.jb_decide.specs.declared.error.AreaError.{AreaError}
use Rattle.jb_decide.specs.declared.error.AreaError.TheVariants.{StoreFault, OutOfMemory}
use Rattle.jb_disk.specs.Device.{CountsFaults, Device}
use Rattle.jb_disk.specs.Runs.{IsAllSynced}
use Rattle.jb_disk.proofs.RunLemmas.{reads_alike}
use Rattle.jb_held.specs.declared.pending.Pending.{Pending}
use Rattle.jb_state.specs.declared.change.Change.TheVariants.{Nothing}
use Rattle.jb_model.specs.declared.command.Command.TheVariants.{Pack}
use Rattle.jb_state.specs.declared.loaded.Loaded.{Loaded}
use Rattle.jb_pack.proofs.TouchLemmas.{touches-none, touches-read, touches-then}
use Rattle.jb_pack.specs.Shadow.{Shadow, left}
use Rattle.jb_pack.specs.Touching.{TouchesShadow}
use Rattle.jb_pack.specs.declared.error.PackError.{PackError}
use Rattle.jb_pack.specs.declared.error.PackError.TheVariants as pack_error
use Rattle.jb_area.specs.declared.calls.TheConstants.{ALL_TEXTS}
use Rattle.jb_area.specs.Area.{HasNoChange, IsDoubtful, IsResting, RestsAt}
use Rattle.jb_area.specs.Calls.{AnswersAs, BeginsCall, BeginsReading, HasRest, IsNotBegun, StartsAs, StepsPack}
use Rattle.jb_area.specs.Commits.{IsCopyingAs}
use Rattle.jb_area.specs.Copying.{AreAllCopied, HasCopiedSome, UnlessFault}
use Rattle.jb_area.specs.Holds.{Opens}
use Rattle.jb_area.specs.declared.area.OpenArea.{OpenArea}
use Rattle.jb_area.specs.declared.stage.Stage.{Stage}
use Rattle.jb_area.specs.declared.stage.Stage.TheVariants.{Copying}
use Rattle.jb_area.proofs.CopyingLemmas.{alike_by, copying_by, copying_opens, crash_by, settled_by, settled_copying}
use Rattle.jb_area.proofs.StageLemmas.{same_pending}
use Rattle.jb_area.proofs.Outcomes.{counts_behind, counts_none, err_gives, ok_gives, on_ok_then}

-- what is so unless there was a fault is so where there was none
pub unless_ok : {T : Type 0} (result : Result T PackError) (value : T) (P : Type 0) → result ≡ Ok value → UnlessFault result P → P
unless_ok {T} result value P is claim = subst (λ (r : Result T PackError). UnlessFault r P) is claim

-- and where memory was wanted
pub unless_memory : {T : Type 0} (result : Result T PackError) (P : Type 0) → result ≡ Err pack_error.OutOfMemory → UnlessFault result P → P
unless_memory {T} result P is claim = subst (λ (r : Result T PackError). UnlessFault r P) is claim

-- the copies are the same
pub same_shadow : (one other : Shadow) → Some one ≡ Some other → one ≡ other
same_shadow one other is = cc

-- who may have an area packed may so where it is loaded as it was, by the same rules
pub may_mid : {D : Type 0} (old mid : OpenArea D) (user : User) → mid.rules ≡ old.rules → mid.held ≡ old.held → MayPack old.rules old.held user → MayPack mid.rules mid.held user
may_mid old mid user rules held may =
    subst (λ (r : AreaRules). MayPack r mid.held user) (sym rules) (subst (λ (l : Loaded). MayPack old.rules l user) (sym held) may)

-- what was begun with something pending has a change
pub start_changes : {D : Type 0} (old new : OpenArea D) (P : Type 0) (decided : Result Decided AreaError) (result : Result (Unit {0}) AreaError) → StartsAs decided old.stage new.stage → AnswersAs decided result
    → IfOk decided (λ one. P → one.pending.change ≢ Nothing) → OnOk result (P → HasNoChange new → ⊥)
start_changes old new P (Ok decided) (Ok done) stage answer some = λ holds none.
    some holds (ap (λ (p : Pending). p.change) (same_pending decided.reply none.reply decided.pending none.pending (sym stage ∙ none.stage)) ∙ none.none)
start_changes old new P decided (Err error) stage answer some = tt
start_changes old new P (Err error) (Ok done) stage answer some = absurd (cc)

module _ {D : Type 0} (shown : D → Device) where
  -- of an area whose device was only touched in .NDT
  module _ (old : OpenArea D) (disk : D) (packer : Option Shadow) (touches : TouchesShadow (shown old.disk) (shown disk)) where
    -- the files hold the area still
    still_copying : (texts : List ℕ) → IsResting shown old texts → IsCopyingAs old.held texts (shown disk)
    still_copying texts resting = copying_by old.held texts (shown old.disk) (shown disk) touches (settled_copying old.held texts (shown old.disk) resting.kept.settled)

    -- at rest, where all is synced and the copies are there
    copied_rests : (IsAllSynced (shown old.disk) → IsAllSynced (shown disk)) → ForSome (shown disk).contents (HoldsCopies packer) → (texts : List ℕ) → IsResting shown old texts
        → RestsAt shown (record old { disk = disk; packer = packer }) texts old.held
    copied_rests synced has texts resting = record {
      rests = record {
        stage = resting.stage;
        small = resting.small;
        kept = record {
          ruled = record { few_slots = resting.kept.ruled.few_slots; address = resting.kept.ruled.address; sound = resting.kept.ruled.sound; sized = resting.kept.ruled.sized; room = resting.kept.ruled.room };
          settled = settled_by old.held texts (shown old.disk) (shown disk) touches resting.kept.settled synced;
          copies = has;
        };
      };
      is = refl;
    }

    -- else in doubt
    copied_half : (texts : List ℕ) → IsResting shown old texts → IsDoubtful shown (record old { disk = disk; packer = packer; stage = Copying }) texts None
    copied_half texts resting = inr (record {
      stage = refl;
      ruled = record { few_slots = resting.kept.ruled.few_slots; address = resting.kept.ruled.address; sound = resting.kept.ruled.sound; sized = resting.kept.ruled.sized; room = resting.kept.ruled.room };
      copying = still_copying texts resting;
    })

    -- a step
    steps : (stage : Stage) (result : Result Bool AreaError) → let new = record old { disk = disk; packer = packer; stage = stage } in
        OnOk result ((texts : List ℕ) → IsResting shown old texts → RestsAt shown new texts old.held)
        → IfErr result (λ error. (texts : List ℕ) → IsResting shown old texts → IsNotBegun shown error old new texts)
        → CountsFaults is_area_fault (shown old.disk) (shown disk) result → StepsPack shown old new result
    steps stage result done failed faults = record {
      done = done;
      failed = failed;
      opens = λ texts resting. copying_opens old.held texts (shown disk) (still_copying texts resting);
      crash = λ texts resting. crash_by old.held texts (shown old.disk) (shown disk) touches (settled_copying old.held texts (shown old.disk) resting.kept.settled);
      touches = touches;
      faults = faults;
      alike = alike_by (shown old.disk) (shown disk) touches;
      loaded = refl;
      commits = refl;
      packs = refl;
      rules = refl;
      room = refl;
    }

    -- one that was done
    pub steps_done : (more : Bool) → (IsAllSynced (shown old.disk) → IsAllSynced (shown disk)) → ForSome (shown disk).contents (HoldsCopies packer)
        → CountsFaults is_area_fault (shown old.disk) (shown disk) (Ok more) → StepsPack shown old (record old { disk = disk; packer = packer }) (Ok more)
    steps_done more synced has = steps old.stage (Ok more) (copied_rests synced has) tt

    -- one that wanted memory
    pub steps_wanting : (IsAllSynced (shown old.disk) → IsAllSynced (shown disk)) → ForSome (shown disk).contents (HoldsCopies packer)
        → CountsFaults {T = Bool} is_area_fault (shown old.disk) (shown disk) (Err OutOfMemory) → StepsPack shown old (record old { disk = disk; packer = packer }) (Err OutOfMemory)
    steps_wanting synced has = steps old.stage (Err OutOfMemory) tt (copied_rests synced has)

    -- one that was stopped by a fault
    pub steps_stopped : CountsFaults {T = Bool} is_area_fault (shown old.disk) (shown disk) (Err StoreFault) → StepsPack shown old (record old { disk = disk; packer = packer; stage = Copying }) (Err StoreFault)
    steps_stopped = steps Copying (Err StoreFault) tt copied_half

  -- a step in which nothing was done
  pub steps_none : (area : OpenArea D) (more : Bool) → StepsPack shown area area (Ok more)
  steps_none area more = record {
    done = λ texts resting. record { rests = resting; is = refl };
    failed = tt;
    opens = λ texts resting. copying_opens area.held texts (shown area.disk) (settled_copying area.held texts (shown area.disk) resting.kept.settled);
    crash = λ texts resting. crash_by area.held texts (shown area.disk) (shown area.disk) (touches-none (shown area.disk)) (settled_copying area.held texts (shown area.disk) resting.kept.settled);
    touches = touches-none (shown area.disk);
    faults = counts_none is_area_fault (shown area.disk) (Ok more) tt;
    alike = refl;
    loaded = refl;
    commits = refl;
    packs = refl;
    rules = refl;
    room = refl;
  }

  -- where a step says that no text is left, none is
  pub all_then : (old mid : OpenArea D) (copied : Result Bool AreaError) (more : Bool) → StepsPack shown old mid copied → HasCopiedSome ALL_TEXTS old.held.slots old.packer mid.packer more
      → more ≡ false → AreAllCopied mid.held.slots mid.packer
  all_then old mid copied more steps some none = record {
    shadow = some.shadow;
    kept = some.kept;
    none = subst (λ (l : Loaded). left some.shadow l.slots ≡ 0) (sym steps.loaded) (no_more (left some.shadow old.held.slots) (sym some.says ∙ none));
  }
    where
      no_more : (n : ℕ) → nat_lt 0 n ≡ false → n ≡ 0
      no_more n is = omega (arith, ltb-false 0 n is)

  -- after a step that was done the area is at rest
  pub rests_then : (old mid : OpenArea D) (copied : Result Bool AreaError) (more : Bool) → copied ≡ Ok more → StepsPack shown old mid copied → HasRest shown old → HasRest shown mid
  rests_then old mid copied more is steps has = record { texts = has.texts; rests = (ok_gives copied more _ is steps.done has.texts has.rests).rests }

  -- one step after another
  pub steps_then : (old mid new : OpenArea D) (first second : Result Bool AreaError) (more : Bool) → first ≡ Ok more → StepsPack shown old mid first → StepsPack shown mid new second → StepsPack shown old new second
  steps_then old mid new first second more is one two =
      let touches = touches-then (shown old.disk) (shown mid.disk) (shown new.disk) one.touches two.touches in
      record {
        done = on_ok_then second _ _ two.done (λ done texts resting. subst (λ (l : Loaded). RestsAt shown new texts l) one.loaded (done texts (mid_rests texts resting)));
        failed = not_done second two.failed;
        opens = λ texts resting. subst (λ (l : Loaded). ForSome (shown new.disk).contents (Opens l texts)) one.loaded (two.opens texts (mid_rests texts resting));
        crash = λ texts resting. crash_by old.held texts (shown old.disk) (shown new.disk) touches (settled_copying old.held texts (shown old.disk) resting.kept.settled);
        touches = touches;
        faults = counts_behind is_area_fault (shown old.disk) (shown mid.disk) (shown new.disk) second (ok_gives first more _ is one.faults.quiet) two.faults;
        alike = two.alike ∙ one.alike;
        loaded = two.loaded ∙ one.loaded;
        commits = two.commits ∙ one.commits;
        packs = two.packs ∙ one.packs;
        rules = two.rules ∙ one.rules;
        room = two.room ∙ one.room;
      }
    where
      mid_rests : (texts : List ℕ) → IsResting shown old texts → IsResting shown mid texts
      mid_rests texts resting = (ok_gives first more _ is one.done texts resting).rests

      not_done : (second : Result Bool AreaError) → IfErr second (λ error. (texts : List ℕ) → IsResting shown mid texts → IsNotBegun shown error mid new texts)
          → IfErr second (λ error. (texts : List ℕ) → IsResting shown old texts → IsNotBegun shown error old new texts)
      not_done (Ok value) failed = tt
      not_done (Err StoreFault) failed = λ texts resting. failed texts (mid_rests texts resting)
      not_done (Err OutOfMemory) failed = λ texts resting. subst (λ (l : Loaded). RestsAt shown new texts l) one.loaded (failed texts (mid_rests texts resting))

  -- a pack that is begun behind a step
  pub begins_behind : (old mid new : OpenArea D) (user : User) (moment : ℕ) (copied : Result Bool AreaError) (more : Bool) (result : Result (Unit {0}) AreaError) → copied ≡ Ok more
      → StepsPack shown old mid copied → BeginsReading shown mid new user moment Pack result → OnOk result (HasNoChange new → ⊥) → BeginsCall shown old new user moment Pack result
  begins_behind old mid new user moment copied more result is steps begins some =
      record {
        begun = on_ok_then result _ _ begins.begun (λ begun texts resting. begun texts (ok_gives copied more _ is steps.done texts resting).rests);
        failed = not_begun result begins.failed;
        faults = counts_behind is_area_fault (shown old.disk) (shown mid.disk) (shown new.disk) result (ok_gives copied more _ is steps.faults.quiet) begins.faults;
        reads = touches-then (shown old.disk) (shown mid.disk) (shown new.disk) steps.touches (touches-read (shown mid.disk) (shown new.disk) begins.reads);
        idle = on_ok_then result _ _ some (λ change none. absurd (change none));
        crash = λ texts resting. crash_by old.held texts (shown old.disk) (shown new.disk)
            (touches-then (shown old.disk) (shown mid.disk) (shown new.disk) steps.touches (touches-read (shown mid.disk) (shown new.disk) begins.reads))
            (settled_copying old.held texts (shown old.disk) resting.kept.settled);
        alike = reads_alike (shown mid.disk) (shown new.disk) begins.reads ∙ steps.alike;
        loaded = begins.loaded ∙ steps.loaded;
        commits = begins.commits ∙ steps.commits;
        packs = begins.packs ∙ steps.packs;
        rules = begins.rules ∙ steps.rules;
        copies = λ in_place. absurd in_place;
        kind = on_ok_then result _ _ some (λ change in_place. absurd in_place);
      }
    where
      not_begun : (result : Result (Unit {0}) AreaError) → IfErr result (λ error. (texts : List ℕ) → IsResting shown mid texts → IsNotBegun shown error mid new texts)
          → IfErr result (λ error. (texts : List ℕ) → IsResting shown old texts → IsNotBegun shown error old new texts)
      not_begun (Ok value) failed = tt
      not_begun (Err StoreFault) failed = λ texts resting. failed texts (ok_gives copied more _ is steps.done texts resting).rests
      not_begun (Err OutOfMemory) failed = λ texts resting.
          subst (λ (l : Loaded). RestsAt shown new texts l) steps.loaded (failed texts (ok_gives copied more _ is steps.done texts resting).rests)

  -- one that is not begun, since the step was not done
  pub begins_not : (old new : OpenArea D) (user : User) (moment : ℕ) (copied : Result Bool AreaError) (error : AreaError) → copied ≡ Err error → StepsPack shown old new copied
      → BeginsCall shown old new user moment Pack (Err error)
  begins_not old new user moment copied error is steps = record {
    begun = tt;
    failed = err_gives copied error _ is steps.failed;
    faults = record { quiet = tt; later = steps.faults.later; cause = err_gives copied error _ is steps.faults.cause };
    reads = steps.touches;
    idle = tt;
    crash = steps.crash;
    alike = steps.alike;
    loaded = steps.loaded;
    commits = steps.commits;
    packs = steps.packs;
    rules = steps.rules;
    copies = λ in_place. absurd in_place;
    kind = tt;
  }
