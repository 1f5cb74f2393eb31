-- What the beginning of a call leaves.
use Rattle.std.proofs.Common.{◌≡◌, ◌⊎◌, inl, inr, ℕ, List, Option, None, Some, Result, Ok, Err, IfOk, IfErr, OnOk, IsOk, ap, sym, refl, ◌∙◌, subst}
use Rattle.std.specs.Option.{ForSome}
use Rattle.std.specs.Prelude.{replicate}
use Rattle.std.proofs.lemmas.List.{length-replicate}
use Rattle.jb_base.specs.declared.area.AreaRules.{AreaRules}
use Rattle.jb_base.specs.declared.user.User.{User}
use Rattle.jb_pack.specs.Shadow.{Shadow}
use Rattle.jb_pack.proofs.TouchLemmas.{touches-read}
use Rattle.jb_pack.specs.Touching.{TouchesShadow}
use Rattle.jb_disk.proofs.RunLemmas.{reads_alike}
use Rattle.jb_change.specs.Ready.{HasRoomInAll}
use Rattle.jb_decide.proofs.CopiesLemmas.{with_copies}
use Rattle.jb_decide.specs.Coming.{Coming}
use Rattle.jb_decide.specs.Decided.{IsDecided, IsNoChange, IsPending, IsTold}
use Rattle.jb_decide.specs.Errors.{is_area_fault}
use Rattle.jb_decide.specs.Holds.{AreTexts, Holds}
use Rattle.jb_decide.specs.StepOf.{IsNoPack, written_text}
use Rattle.jb_decide.specs.declared.decided.Decided.{Decided}
use Rattle.jb_decide.specs.declared.error.AreaError.{AreaError}
use Rattle.jb_decide.specs.declared.error.AreaError.TheVariants.{StoreFault, OutOfMemory}
use Rattle.jb_disk.specs.RedoView.{RedoView}
use Rattle.jb_disk.specs.Device.{CountsFaults, Device, OnlyReads, RoseIf}
use Rattle.jb_disk.specs.Files.{Files}
use Rattle.jb_disk.specs.Runs.{LeavesNow}
use Rattle.jb_disk.specs.declared.file.FileId.TheVariants.{Jdt}
use Rattle.jb_journal.specs.declared.stopped.Stopped.TheVariants.{Early}
use Rattle.jb_held.specs.Pending.{no_room}
use Rattle.jb_held.specs.declared.pending.Pending.{Pending}
use Rattle.jb_state.specs.declared.change.Change.{Change}
use Rattle.jb_state.specs.declared.change.Change.TheVariants.{Nothing}
use Rattle.jb_model.specs.declared.command.Command.{Command}
use Rattle.jb_state.specs.declared.loaded.Loaded.{Loaded}
use Rattle.jb_area.specs.Area.{copies_after, copies_kept, packs_in, packs_to, redo_in, HasNoChange, IsDoubtful, IsHeldByFiles, IsResting, RestsAt}
use Rattle.jb_area.specs.Calls.{AnswersAs, BeginsCall, BeginsReading, FailsWith, HasRest, HasStoppedIn, IsBegunFor, IsNotBegun, OnlyReadsOrCopies, StartsAs, large_after}
use Rattle.jb_area.specs.Commits.{IsSettledAs}
use Rattle.jb_area.specs.Holds.{IsAtRest, Opens}
use Rattle.jb_area.specs.declared.area.OpenArea.{OpenArea}
use Rattle.jb_area.specs.declared.stage.Stage.{Stage}
use Rattle.jb_area.specs.declared.stage.Stage.TheVariants.{Resting, Begun, Doubtful}
use Rattle.jb_area.proofs.Outcomes.{if_ok_then}
use Rattle.jb_area.proofs.CopyingLemmas.{by_reads, crash_by, settled_copying, touches_by}
use Rattle.jb_area.proofs.DoubtLemmas.{doubt_reads}
use Rattle.jb_area.proofs.PackedLemmas.{copies_stay}

-- an area at rest holds what is loaded, by the texts of its own file
pub holds_own : (loaded : Loaded) (texts : List ℕ) (device : Device) → IsSettledAs loaded texts device → ForSome device.contents (λ files. Holds loaded (files Jdt) files)
holds_own loaded texts device settled files there = record { loads = (settled.rests files there).holds.loads; texts_are = refl }

-- one value is another
some-same : {A : Type 0} (a b : A) → Some a ≡ Some b → a ≡ b
some-same a b is = cc

-- an area over files at rest has texts, and so has one whose files are not told
pub some_texts : (loaded : Loaded) (contents : Option Files) → ForSome contents (λ files. IsAtRest loaded (files Jdt) files) → (texts : List ℕ) × AreTexts loaded texts contents
some_texts loaded None rests = (replicate loaded.texts_len 0, record { sized = length-replicate loaded.texts_len 0; told = λ files there. cc })
some_texts loaded (Some own) rests = (
  own Jdt,
  record {
    sized = sym (rests own refl).holds.loads.texts_len;
    told = λ files there. ap (λ (f : Files). f Jdt) (sym (some-same own files there));
  },
)

-- a device that is left alone was at most read
pub reads_itself : (device : Device) → OnlyReads device device
reads_itself device = record { contents = refl; moments = refl }

-- a device that was only read is settled as before
pub settled_read : (loaded : Loaded) (texts : List ℕ) (old new : Device) → OnlyReads old new → IsSettledAs loaded texts old → IsSettledAs loaded texts new
settled_read loaded texts old new same settled = record {
  rests = λ files there. settled.rests files (sym same.contents ∙ there);
  synced = λ files there. subst (LeavesNow (λ left. left ≡ files)) (sym same.moments) (settled.synced files (sym same.contents ∙ there));
}

-- what is so is so where all was done
pub ok_always : {T E : Type 0} (result : Result T E) (P : Type 0) → P → OnOk result P
ok_always (Ok value) P is = is
ok_always (Err error) P is = tt

module _ {T E : Type 0} (result : Result T E) where
  -- what is done is not refused
  ok_not_err : (value : T) (error : E) → result ≡ Ok value → result ≡ Err error → ⊥
  ok_not_err value error ok err = cc

  -- what is refused is not done
  pub err_not_ok : (error : E) → result ≡ Err error → IsOk result → ⊥
  err_not_ok error err ok = cc

  -- it is refused for one thing
  same_error : (one other : E) → result ≡ Err one → result ≡ Err other → one ≡ other
  same_error one other first second = cc

-- a fault is not want of memory
two_causes : StoreFault ≡ OutOfMemory → ⊥
two_causes is = cc

module _ {D : Type 0} (shown : D → Device) where
  -- the texts of an area at rest
  texts_own : (area : OpenArea D) (texts : List ℕ) → IsResting shown area texts → AreTexts area.held texts (shown area.disk).contents
  texts_own area texts resting = record {
    sized = resting.kept.ruled.sized;
    told = λ files there. (resting.kept.settled.rests files there).holds.texts_are;
  }

  -- a call that is begun and only reads
  pub begins_call : (old new : OpenArea D) (user : User) (moment : ℕ) (command : Command) (result : Result (Unit {0}) AreaError) → BeginsReading shown old new user moment command result → BeginsCall shown old new user moment command result
  begins_call old new user moment command result begins = record {
    begun = begins.begun;
    failed = begins.failed;
    faults = begins.faults;
    reads = by_reads command (shown old.disk) (shown new.disk) begins.reads;
    idle = ok_always result (HasNoChange new → OnlyReads (shown old.disk) (shown new.disk)) (λ none. begins.reads);
    crash = λ texts resting. crash_by old.held texts (shown old.disk) (shown new.disk) (touches-read (shown old.disk) (shown new.disk) begins.reads)
        (settled_copying old.held texts (shown old.disk) resting.kept.settled);
    alike = reads_alike (shown old.disk) (shown new.disk) begins.reads;
    loaded = begins.loaded;
    commits = begins.commits;
    packs = begins.packs;
    rules = begins.rules;
    copies = λ in_place. begins.copies;
    kind = begins.kind;
  }

  -- an area, from its parts
  rebuilt : (P : OpenArea D → Type 0) (new : OpenArea D) (disk : D) (rules : AreaRules) (held : Loaded) (redo : RedoView) (commits packs : ℕ) (large : Option RedoView) (packer : Option Shadow) (stage : Stage) → new.disk ≡ disk → new.rules ≡ rules
      → new.held ≡ held → new.redo ≡ redo → new.commits ≡ commits → new.packs ≡ packs → new.large ≡ large → new.packer ≡ packer → new.stage ≡ stage
      → P (record { disk = disk; rules = rules; held = held; redo = redo; commits = commits; packs = packs; large = large; packer = packer; stage = stage }) → P new
  rebuilt P new disk rules held redo commits packs large packer stage is_disk is_rules is_held is_redo is_commits is_packs is_large is_packer is_stage p =
      subst (λ (s : Stage). P (record { disk = new.disk; rules = new.rules; held = new.held; redo = new.redo; commits = new.commits; packs = new.packs; large = new.large; packer = new.packer; stage = s })) (sym is_stage)
      (subst (λ (k : Option Shadow). P (record { disk = new.disk; rules = new.rules; held = new.held; redo = new.redo; commits = new.commits; packs = new.packs; large = new.large; packer = k; stage = stage })) (sym is_packer)
      (subst (λ (l : Option RedoView). P (record { disk = new.disk; rules = new.rules; held = new.held; redo = new.redo; commits = new.commits; packs = new.packs; large = l; packer = packer; stage = stage })) (sym is_large)
      (subst (λ (n : ℕ). P (record { disk = new.disk; rules = new.rules; held = new.held; redo = new.redo; commits = new.commits; packs = n; large = large; packer = packer; stage = stage })) (sym is_packs)
      (subst (λ (n : ℕ). P (record { disk = new.disk; rules = new.rules; held = new.held; redo = new.redo; commits = n; packs = packs; large = large; packer = packer; stage = stage })) (sym is_commits)
      (subst (λ (r : RedoView). P (record { disk = new.disk; rules = new.rules; held = new.held; redo = r; commits = commits; packs = packs; large = large; packer = packer; stage = stage })) (sym is_redo)
      (subst (λ (h : Loaded). P (record { disk = new.disk; rules = new.rules; held = h; redo = redo; commits = commits; packs = packs; large = large; packer = packer; stage = stage })) (sym is_held)
      (subst (λ (u : AreaRules). P (record { disk = new.disk; rules = u; held = held; redo = redo; commits = commits; packs = packs; large = large; packer = packer; stage = stage })) (sym is_rules)
      (subst (λ (d : D). P (record { disk = d; rules = rules; held = held; redo = redo; commits = commits; packs = packs; large = large; packer = packer; stage = stage })) (sym is_disk) p))))))))

  module _ (area new : OpenArea D) (disk : D) (redo : RedoView) (given : Option RedoView) (is_disk : new.disk ≡ disk) (is_rules : new.rules ≡ area.rules) (is_held : new.held ≡ area.held) (is_redo : new.redo ≡ redo)
      (is_packer : new.packer ≡ area.packer) (is_commits : new.commits ≡ area.commits) (is_packs : new.packs ≡ area.packs)
      (reads : OnlyReads (shown area.disk) (shown disk)) (room : HasRoomInAll redo) where
    -- what is kept stays so
    kept_read : (large : Option RedoView) (stage : Stage) (texts : List ℕ) → IsHeldByFiles shown area texts
        → IsHeldByFiles shown (record { disk = disk; rules = area.rules; held = area.held; redo = redo; commits = area.commits; packs = area.packs; large = large; packer = area.packer; stage = stage }) texts
    kept_read large stage texts kept = record {
      ruled = record { few_slots = kept.ruled.few_slots; address = kept.ruled.address; sound = kept.ruled.sound; sized = kept.ruled.sized; room = room };
      settled = settled_read area.held texts (shown area.disk) (shown disk) reads kept.settled;
      copies = λ files there. kept.copies files (sym reads.contents ∙ there);
    }

    -- what is pending, by what a disk tells
    abbrev Changes : Change → List ℕ → List ℕ → Coming → Option Files → Type 0
    Changes change posted texts coming contents =
        IsNoChange change area.held texts coming ⊎ IsPending area.rules.slots contents area.packer (redo_in given redo) change area.held posted texts coming

    -- begun
    starts : (decided : Result Decided AreaError) (result : Result (Unit {0}) AreaError) (user : User) (moment : ℕ) (command : Command) → StartsAs decided area.stage new.stage → new.large ≡ large_after decided given area.large → AnswersAs decided result
        → IfOk decided (λ one. (texts : List ℕ) → AreTexts area.held texts (shown area.disk).contents → IsDecided area.rules area.held texts (shown area.disk).contents area.packer (redo_in given redo) user moment command one)
        → OnOk result ((texts : List ℕ) → IsResting shown area texts → IsBegunFor shown new texts user moment command)
    starts (Ok decided) (Ok done) user moment command stage is_large answer is = λ texts resting.
        let decides = is texts (texts_own area texts resting) in
        rebuilt (λ (a : OpenArea D). IsBegunFor shown a texts user moment command) new disk area.rules area.held redo area.commits area.packs given area.packer (Begun decided.reply decided.pending) is_disk is_rules is_held is_redo is_commits is_packs is_large is_packer stage
        (record {
          reply = decided.reply;
          coming = decides.coming;
          begun = record {
            posted = written_text command;
            pending = decided.pending;
            stage = refl;
            kept = kept_read given (Begun decided.reply decided.pending) texts resting.kept;
            change = subst (Changes decided.pending.change (written_text command) texts decides.coming) (sym reads.contents) decides.change;
            room = decides.room;
            told = decides.told;
          };
          text = refl;
          step = λ told. decides.step (subst (λ (o : Option Files). IsTold decided.reply o) reads.contents told);
          somewhere = decides.somewhere;
          idle = λ nothing. let none = decides.idle nothing in (record { reply = decided.reply; pending = decided.pending; stage = refl; none = none.none }, none.same);
          index = decides.index;
          headers = decides.headers;
          packs = decides.packs;
        })
    starts (Ok decided) (Err error) user moment command stage is_large answer is = tt
    starts (Err error) (Ok done) user moment command stage is_large answer is = absurd (ok_not_err (Ok done) done error refl answer)
    starts (Err error) (Err other) user moment command stage is_large answer is = tt

    -- and but for a pack the copies stay when it is done
    stays : (decided : Result Decided AreaError) (result : Result (Unit {0}) AreaError) (user : User) (moment : ℕ) (command : Command) → StartsAs decided area.stage new.stage → AnswersAs decided result
        → IfOk decided (λ one. (texts : List ℕ) → AreTexts area.held texts (shown area.disk).contents → IsDecided area.rules area.held texts (shown area.disk).contents area.packer (redo_in given redo) user moment command one)
        → HasRest shown area → OnOk result (IsNoPack command → copies_after new ≡ new.packer)
    stays (Ok decided) (Ok done) user moment command stage answer is has = λ in_place.
        ap (λ (s : Stage). copies_kept s new.packer) stage ∙ copies_stay decided.pending.change new.packer ((is has.texts (texts_own area has.texts has.rests)).kind in_place)
    stays decided (Err error) user moment command stage answer is has = tt
    stays (Err error) (Ok done) user moment command stage answer is has = absurd (ok_not_err (Ok done) done error refl answer)

    -- or not
    starts_not : (decided : Result Decided AreaError) (result : Result (Unit {0}) AreaError) → StartsAs decided area.stage new.stage → new.large ≡ large_after decided given area.large → AnswersAs decided result
        → IfErr result (λ error. (texts : List ℕ) → IsResting shown area texts → IsNotBegun shown error area new texts)
    starts_not decided (Ok done) stage is_large answer = tt
    starts_not (Ok decided) (Err error) stage is_large answer = let refused : Result (Unit {0}) AreaError = Err error in absurd (err_not_ok refused error refl answer)
    starts_not (Err StoreFault) (Err StoreFault) stage is_large answer = λ texts resting.
        let pending : Pending = record { change = Nothing; room = no_room } in
        rebuilt (λ (a : OpenArea D). IsDoubtful shown a texts None) new disk area.rules area.held redo area.commits area.packs area.large area.packer (Doubtful Early pending) is_disk is_rules is_held is_redo is_commits is_packs is_large is_packer stage
        (inl (record { stage = refl; kept = kept_read area.large (Doubtful Early pending) texts resting.kept }))
    starts_not (Err OutOfMemory) (Err OutOfMemory) stage is_large answer = λ texts resting.
        rebuilt (λ (a : OpenArea D). RestsAt shown a texts area.held) new disk area.rules area.held redo area.commits area.packs area.large area.packer Resting is_disk is_rules is_held is_redo is_commits is_packs is_large is_packer (stage ∙ resting.stage)
        (record { rests = record { stage = refl; small = resting.small; kept = kept_read area.large Resting texts resting.kept }; is = refl })
    starts_not (Err StoreFault) (Err OutOfMemory) stage is_large answer = absurd (two_causes (sym (same_error (Err OutOfMemory) OutOfMemory StoreFault refl answer)))
    starts_not (Err OutOfMemory) (Err StoreFault) stage is_large answer = absurd (two_causes (same_error (Err StoreFault) StoreFault OutOfMemory refl answer))

    -- what is begun, or not, counts the faults of what was decided, or not
    same_counts : (decided : Result Decided AreaError) (result : Result (Unit {0}) AreaError) → AnswersAs decided result → CountsFaults is_area_fault (shown area.disk) (shown disk) decided
        → CountsFaults is_area_fault (shown area.disk) (shown disk) result
    same_counts (Ok decided) (Ok done) answer counts = record { quiet = counts.quiet; later = counts.later; cause = tt }
    same_counts (Ok decided) (Err error) answer counts = let refused : Result (Unit {0}) AreaError = Err error in absurd (err_not_ok refused error refl answer)
    same_counts (Err error) (Ok done) answer counts = absurd (ok_not_err (Ok done) done error refl answer)
    same_counts (Err one) (Err other) answer counts = record {
      quiet = tt;
      later = counts.later;
      cause = subst (λ (e : AreaError). RoseIf (is_area_fault e) (shown area.disk).faults (shown disk).faults) (sym (same_error (Err other) other one refl answer)) counts.cause;
    }

    -- a call is begun, or not
    pub begins_with : (decided : Result Decided AreaError) (result : Result (Unit {0}) AreaError) (user : User) (moment : ℕ) (command : Command) → StartsAs decided area.stage new.stage → new.large ≡ large_after decided given area.large → AnswersAs decided result
        → IfOk decided (λ one. (texts : List ℕ) → AreTexts area.held texts (shown area.disk).contents → IsDecided area.rules area.held texts (shown area.disk).contents area.packer (redo_in given redo) user moment command one)
        → CountsFaults is_area_fault (shown area.disk) (shown disk) decided → HasRest shown area
        → BeginsReading shown area new user moment command result
    begins_with decided result user moment command stage is_large answer is counts has = record {
      begun = starts decided result user moment command stage is_large answer is;
      failed = starts_not decided result stage is_large answer;
      faults = subst (λ (d : D). CountsFaults is_area_fault (shown area.disk) (shown d) result) (sym is_disk) (same_counts decided result answer counts);
      reads = subst (λ (d : D). OnlyReads (shown area.disk) (shown d)) (sym is_disk) reads;
      loaded = is_held;
      commits = is_commits;
      packs = is_packs;
      rules = is_rules;
      copies = is_packer;
      kind = stays decided result user moment command stage answer is has;
    }

    -- the same, of what is decided over any copies
    pub begins : (decided : Result Decided AreaError) (result : Result (Unit {0}) AreaError) (user : User) (moment : ℕ) (command : Command) → StartsAs decided area.stage new.stage → new.large ≡ large_after decided given area.large → AnswersAs decided result
        → IfOk decided (λ one. (texts : List ℕ) → AreTexts area.held texts (shown area.disk).contents → IsDecided area.rules area.held texts (shown area.disk).contents None (redo_in given redo) user moment command one)
        → CountsFaults is_area_fault (shown area.disk) (shown disk) decided → HasRest shown area
        → BeginsCall shown area new user moment command result
    begins decided result user moment command stage is_large answer is counts has =
        begins_call area new user moment command result (begins_with decided result user moment command stage is_large answer
        (if_ok_then decided _ _ is (λ one is texts are. with_copies area.rules area.held texts (shown area.disk).contents area.packer (redo_in given redo) user moment command one (is texts are))) counts has)

  -- in a doubt without a change no pack is counted
  packs_unchanged : (area : OpenArea D) (texts : List ℕ) → IsDoubtful shown area texts None → packs_to area ≡ area.packs
  packs_unchanged area texts (inl unchanged) = ap (λ (s : Stage). packs_in s area.packs) unchanged.stage
  packs_unchanged area texts (inr half) = ap (λ (s : Stage). packs_in s area.packs) half.stage

  -- a call that changed nothing was stopped
  pub stopped_unchanged : (old new : OpenArea D) (texts : List ℕ) (user : User) (moment : ℕ) (command : Command) → TouchesShadow (shown old.disk) (shown new.disk) → new.held ≡ old.held → new.commits ≡ old.commits → new.packs ≡ old.packs → IsResting shown old texts
      → IsDoubtful shown new texts None → HasStoppedIn shown old new texts user moment command
  stopped_unchanged old new texts user moment command touches loaded commits packs resting doubt = record {
    coming = None;
    change = packs_unchanged new texts doubt ∙ packs;
    doubt = doubt;
    opens = λ files there. subst (λ (l : Loaded). Opens l texts files) loaded (doubt_reads shown new texts None doubt files there);
    loaded = loaded;
    commits = commits;
    packs = packs;
    crash = crash_by old.held texts (shown old.disk) (shown new.disk) touches (settled_copying old.held texts (shown old.disk) resting.kept.settled);
  }

  -- why a call was not begun, as what it leaves
  pub fails_with : (error : AreaError) (old new : OpenArea D) (texts : List ℕ) (user : User) (moment : ℕ) (command : Command) → OnlyReadsOrCopies command (shown old.disk) (shown new.disk) → new.held ≡ old.held → new.commits ≡ old.commits → new.packs ≡ old.packs → IsResting shown old texts
      → IsNotBegun shown error old new texts → FailsWith shown error old new texts user moment command
  fails_with StoreFault old new texts user moment command reads loaded commits packs resting not =
      stopped_unchanged old new texts user moment command (touches_by command (shown old.disk) (shown new.disk) reads) loaded commits packs resting not
  fails_with OutOfMemory old new texts user moment command reads loaded commits packs resting not = (not, reads)
