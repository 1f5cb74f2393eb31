-- A call that was decided is begun, and then it ends.
use Rattle.std.proofs.Common.{◌≡◌, inl, ℕ, Bool, true, List, Option, Result, Ok, Err, IfErr, IsOk, OnErr, OnOk, Some, ap, refl, sym, ◌∙◌, subst, arith}
use Rattle.std.proofs.lemmas.Bool.{false≢true}
use Rattle.std.specs.Option.{ForSome}
use Rattle.std.specs.Prelude.{IsSome, is_some}
use Rattle.jb_base.specs.declared.area.AreaRules.{AreaRules}
use Rattle.jb_base.specs.declared.user.User.{User}
use Rattle.jb_decide.specs.Decided.{IsAnsweredSomewhere, IsTold, made}
use Rattle.jb_decide.specs.Errors.{is_area_fault}
use Rattle.jb_decide.specs.Headers.{KeepsHeaders, PacksHeaders}
use Rattle.jb_decide.specs.Holds.{Holds}
use Rattle.jb_decide.specs.StepOf.{ChangesNothing, IsNoPack, written_text}
use Rattle.jb_decide.specs.Telling.{IsToldBy}
use Rattle.jb_decide.proofs.AgreeLemmas.{headers_agree, packs_agree}
use Rattle.jb_decide.specs.declared.error.AreaError.{AreaError}
use Rattle.jb_decide.specs.declared.error.AreaError.TheVariants.{OutOfMemory, StoreFault}
use Rattle.jb_disk.specs.Device.{Device, OnlyReads}
use Rattle.jb_disk.specs.Files.{Files, file_number}
use Rattle.jb_disk.specs.declared.file.FileId.TheVariants.{Jdt, Jdx, Jhr}
use Rattle.jb_disk.specs.Runs.{LeavesOnly}
use Rattle.jb_disk.proofs.RunLemmas.{runs-then}
use Rattle.jb_pack.specs.Touching.{AgreeButShadow, TouchesShadow}
use Rattle.jb_redo.proofs.ApplyLemmas.{turns_on}
use Rattle.jb_change.specs.Put.{KeepsIndexOnKill}
use Rattle.jb_disk.specs.RedoView.{RedoView}
use Rattle.jb_state.specs.Change.{Fits}
use Rattle.jb_state.specs.State.{state_of}
use Rattle.jb_model.specs.Step.{Step}
use Rattle.jb_state.specs.declared.change.Change.{Change}
use Rattle.jb_state.specs.declared.change.Change.TheVariants.{Nothing, Posted, Headed, Edited, Killed, Relinked, Marked, Packed}
use Rattle.jb_model.specs.declared.command.Command.{Command}
use Rattle.jb_model.specs.declared.command.Command.TheVariants.{Edit, Post}
use Rattle.jb_state.specs.declared.loaded.Loaded.{Loaded}
use Rattle.jb_model.specs.declared.reply.Reply.{Reply}
use Rattle.jb_area.specs.Area.{done_in, files_after, packs_in, packs_to, redo_of, HasBegun, HasMade, HasNoChange, IsCountedIn, IsDoubtful, IsResting, RestsAt}
use Rattle.jb_area.specs.Calls.{BeginsCall, EndsCall, FailsWith, HasAnswered, HasStoppedIn, IsBegunFor, KeepsIndexFile, MeetsCall, OnlyReadsOrCopies}
use Rattle.jb_decide.specs.Coming.{coming_of}
use Rattle.jb_area.specs.Commits.{IsCounted, next_commit, packs_with}
use Rattle.jb_area.specs.Holds.{Opens, OpensToEither}
use Rattle.jb_area.specs.declared.area.OpenArea.{OpenArea}
use Rattle.jb_area.proofs.CommitLemmas.{only_weaken}
use Rattle.jb_area.proofs.CopyingLemmas.{alike_by, crash_by, reads_by, settled_copying, touches_by}
use Rattle.jb_area.proofs.Outcomes.{counts_behind, err_gives, if_ok_then2, ok_gives}
use Rattle.jb_area.proofs.PackedLemmas.{on_either}
use Rattle.jb_area.proofs.StageLemmas.{becomes_is, fits_is}
use Rattle.jb_area.proofs.StartLemmas.{err_not_ok, fails_with}
use Rattle.jb_area.specs.declared.stage.Stage.{Stage}

-- what a crash leaves, one after another
only_then : (P : Files → Type 0) (old mid new : Device) → LeavesOnly old mid P → LeavesOnly mid new P → LeavesOnly old new P
only_then P old mid new one two = record { first = one.first; run = runs-then P old.moments mid.moments new.moments one.run two.run }

-- what is told where a disk goes on telling
some_alike : (old new : Option Files) → is_some new ≡ is_some old → IsSome old → IsSome new
some_alike old new alike told = alike ∙ told

-- the same post, from the same parts
pub same_post : (to its_to subject its_subject text its_text : List ℕ) (reply_to : ℕ) (private : Bool) → to ≡ its_to → subject ≡ its_subject → text ≡ its_text
    → Post to subject text reply_to private ≡ Post its_to its_subject its_text reply_to private
same_post to its_to subject its_subject text its_text reply_to private one two three =
    ap (λ (t : List ℕ). Post t subject text reply_to private) one ∙ ap (λ (s : List ℕ). Post its_to s text reply_to private) two
    ∙ ap (λ (t : List ℕ). Post its_to its_subject t reply_to private) three

-- the same edit
pub same_edit : (number : ℕ) (subject its_subject text its_text : List ℕ) → subject ≡ its_subject → text ≡ its_text → Edit number subject text ≡ Edit number its_subject its_text
same_edit number subject its_subject text its_text one two = ap (λ (s : List ℕ). Edit number s text) one ∙ ap (λ (t : List ℕ). Edit number its_subject t) two

-- a kill leaves the file of the index in files that have it as those in which the change is done
index_agrees : (change : Change) (redo : RedoView) (loaded : Loaded) (texts : List ℕ) (start was now : Files) → KeepsIndexOnKill redo loaded change → Holds loaded texts was
    → now Jdx ≡ made change redo was Jdx → was Jdx ≡ start Jdx → KeepsIndexFile change start now
index_agrees Nothing redo loaded texts start was now keeps holds same before = tt
index_agrees (Posted message neighbour) redo loaded texts start was now keeps holds same before = tt
index_agrees (Headed at) redo loaded texts start was now keeps holds same before = tt
index_agrees (Edited place message) redo loaded texts start was now keeps holds same before = tt
index_agrees (Killed place) redo loaded texts start was now keeps holds same before = same ∙ keeps was holds.loads ∙ before
index_agrees (Relinked plan) redo loaded texts start was now keeps holds same before = tt
index_agrees (Marked place mark) redo loaded texts start was now keeps holds same before = tt
index_agrees (Packed plan base) redo loaded texts start was now keeps holds same before = tt

-- a fault is the only refusal that is one
pub store_fault : {T : Type 0} (result : Result T AreaError) → IfErr result (λ error. is_area_fault error ≡ true) → IfErr result (λ error. error ≡ StoreFault)
store_fault (Ok value) is = tt
store_fault (Err StoreFault) is = refl
store_fault (Err OutOfMemory) is = absurd (false≢true is)

-- two claims on what is done
on_ok_both : {T E : Type 0} (result : Result T E) (P Q : Type 0) → OnOk result P → OnOk result Q → OnOk result (P × Q)
on_ok_both (Ok value) P Q first second = (first, second)
on_ok_both (Err error) P Q first second = tt

-- two claims on a refusal
on_err_both : {T E : Type 0} (result : Result T E) (P Q : Type 0) → OnErr result P → OnErr result Q → OnErr result (P × Q)
on_err_both (Ok value) P Q first second = tt
on_err_both (Err error) P Q first second = (first, second)

-- a call that is stopped has a change
stopped_some : {T E : Type 0} (result : Result T E) (P H : Type 0) (Q : Type 0) → OnErr result P → (H → IsOk result × Q) → OnErr result (P × (H → ⊥))
stopped_some (Ok value) P H Q stopped idle = tt
stopped_some {T} {E} (Err error) P H Q stopped idle = (stopped, λ none. err_not_ok {T = T} {E = E} (Err error) error refl (idle none).0)

-- a call that is stopped fails so
fails_so : {T : Type 0} (result : Result T AreaError) (P : Type 0) (Q : AreaError → Type 0) → IfErr result (λ error. error ≡ StoreFault) → OnErr result P → (P → Q StoreFault) → IfErr result Q
fails_so (Ok value) P Q fault doubt then = tt
fails_so (Err error) P Q fault doubt then = subst Q (sym fault) (then doubt)

module _ {D : Type 0} (shown : D → Device) (old mid new : OpenArea D) (texts : List ℕ) (user : User) (moment : ℕ) (command : Command)
    (reads : OnlyReadsOrCopies command (shown old.disk) (shown mid.disk)) (idle : HasNoChange mid → OnlyReads (shown old.disk) (shown mid.disk)) (resting : IsResting shown old texts)
    (loaded : mid.held ≡ old.held) (commits : mid.commits ≡ old.commits) (packs : mid.packs ≡ old.packs) (rules : mid.rules ≡ old.rules) (begun : IsBegunFor shown mid texts user moment command) where
  -- but for .NDT the device is as it was
  touches : TouchesShadow (shown old.disk) (shown mid.disk)
  touches = touches_by command (shown old.disk) (shown mid.disk) reads

  -- it tells as it did
  told_mid : IsTold begun.reply (shown old.disk).contents → IsTold begun.reply (shown mid.disk).contents
  told_mid told letter is = some_alike (shown old.disk).contents (shown mid.disk).contents (alike_by (shown old.disk) (shown mid.disk) touches) (told letter is)

  -- the step, as it was before the call
  step_before : IsTold begun.reply (shown old.disk).contents
      → Step old.rules (state_of texts old.held) user moment command begun.reply (state_of begun.coming.texts begun.coming.to)
  step_before told =
      subst (λ (r : AreaRules). Step r (state_of texts old.held) user moment command begun.reply (state_of begun.coming.texts begun.coming.to)) rules
      (subst (λ (l : Loaded). Step mid.rules (state_of texts l) user moment command begun.reply (state_of begun.coming.texts begun.coming.to)) loaded
      (begun.step (told_mid told)))

  -- a call that changes nothing has no change, and leaves the device
  idle_before : (HasNoChange mid → shown new.disk ≡ shown mid.disk) → ChangesNothing command begun.reply
      → OnlyReads (shown old.disk) (shown new.disk) × (begun.coming ≡ record { to = old.held; texts = texts })
  idle_before left nothing =
      let none = begun.idle nothing in (
        subst (OnlyReads (shown old.disk)) (sym (left none.0)) (idle none.0),
        none.1 ∙ ap (λ (l : Loaded). record { to = l; texts = texts }) loaded,
      )

  -- what a crash leaves meanwhile
  crash_before : ForSome (shown mid.disk).contents (λ files. LeavesOnly (shown mid.disk) (shown new.disk) (OpensToEither mid.held texts begun.coming))
      → ForSome (shown old.disk).contents (λ files. LeavesOnly (shown old.disk) (shown new.disk) (OpensToEither old.held texts begun.coming))
  crash_before crash = λ files there.
      let mid_there = turns_on AgreeButShadow (shown old.disk).contents (shown mid.disk).contents files touches.others there in
      let first : LeavesOnly (shown old.disk) (shown mid.disk) (OpensToEither old.held texts begun.coming) =
      only_weaken (Opens old.held texts) (OpensToEither old.held texts begun.coming) (shown old.disk) (shown mid.disk) (λ left opens. inl opens)
      (crash_by old.held texts (shown old.disk) (shown mid.disk) touches (settled_copying old.held texts (shown old.disk) resting.kept.settled) files there) in
      only_then (OpensToEither old.held texts begun.coming) (shown old.disk) (shown mid.disk) (shown new.disk) first
      (subst (λ (l : Loaded). LeavesOnly (shown mid.disk) (shown new.disk) (OpensToEither l texts begun.coming)) loaded (crash mid_there.0 mid_there.1))

  -- what it changes
  abbrev change : Change
  change = begun.begun.pending.change

  -- what becomes of the headers
  headers_then : HasMade shown mid new → IsNoPack command → ForSome (shown old.disk).contents (λ was. ForSome (shown new.disk).contents (λ now.
      KeepsHeaders change begun.reply old.held begun.coming.to was now))
  headers_then made in_place was there now here =
      let there_too = (reads_by command (shown old.disk) (shown mid.disk) in_place reads).contents ∙ there in
      headers_agree change begun.reply old.held begun.coming.to was now (files_after mid was) (made was there_too now here Jhr (λ is. let number = ap file_number is in omega (arith, number)))
      (subst (λ (l : Loaded). KeepsHeaders change begun.reply l begun.coming.to was (files_after mid was)) loaded (begun.headers in_place was (record { holds = (begun.begun.kept.settled.rests was there_too).holds; has = begun.begun.kept.copies was there_too })))

  -- and of those of a pack
  packs_then : HasMade shown mid new → ForSome (shown old.disk).contents (λ was. ForSome (shown new.disk).contents (λ now. PacksHeaders begun.reply begun.coming.to now))
  packs_then made start start_there now here =
      let mid_there = turns_on AgreeButShadow (shown old.disk).contents (shown mid.disk).contents start touches.others start_there in
      let was : Files = mid_there.0 in
      let there = mid_there.1 in
      let agrees = made was there now here in
      packs_agree begun.reply begun.coming.to now (files_after mid was)
      (agrees Jhr (λ is. let number = ap file_number is in omega (arith, number))) (agrees Jdt (λ is. let number = ap file_number is in omega (arith, number)))
      (begun.packs was (record { holds = (begun.begun.kept.settled.rests was there).holds; has = begun.begun.kept.copies was there }))

  -- what it changes fits the area, as it was before the call
  fits_before : Fits old.rules.slots change old.held
  fits_before =
      subst (λ (r : AreaRules). Fits r.slots change old.held) rules
      (subst (λ (l : Loaded). Fits mid.rules.slots change l) loaded (fits_is shown mid texts begun.reply begun.coming begun.begun begun.reply begun.begun.pending begun.begun.stage))

  -- and brings what is to come
  becomes_before : begun.coming ≡ coming_of change old.held (written_text command) texts
  becomes_before =
      becomes_is shown mid texts begun.reply begun.coming begun.begun begun.reply begun.begun.pending begun.begun.stage
      ∙ ap (λ (l : Loaded). coming_of change l begun.begun.posted texts) loaded
      ∙ ap (λ (t : List ℕ). coming_of change old.held t texts) begun.text

  -- it is what some texts are answered with
  somewhere_before : IsAnsweredSomewhere old.rules old.held user moment command begun.reply change
  somewhere_before =
      subst (λ (r : AreaRules). IsAnsweredSomewhere r old.held user moment command begun.reply change) rules
      (subst (λ (l : Loaded). IsAnsweredSomewhere mid.rules l user moment command begun.reply change) loaded begun.somewhere)

  -- and a kill leaves the file of the index
  index_then : HasMade shown mid new → ForSome (shown old.disk).contents (λ was. ForSome (shown new.disk).contents (λ now. KeepsIndexFile change was now))
  index_then made start start_there now here =
      let mid_there = turns_on AgreeButShadow (shown old.disk).contents (shown mid.disk).contents start touches.others start_there in
      let was : Files = mid_there.0 in
      let there = mid_there.1 in
      index_agrees change (redo_of mid) mid.held texts start was now begun.index (begun.begun.kept.settled.rests was there).holds
      (made was there now here Jdx (λ is. let number = ap file_number is in omega (arith, number)) ∙ ap (λ (s : Stage). done_in s (redo_of mid) was Jdx) begun.begun.stage)
      (mid_there.2 Jdx (λ is. let number = ap file_number is in omega (arith, number)))

  -- the packs that it comes to
  packs_before : packs_to mid ≡ packs_with change old.packs
  packs_before = ap (λ (s : Stage). packs_in s mid.packs) begun.begun.stage ∙ ap (packs_with change) packs

  -- finished
  answered_by : (reply : Reply) → (reply ≡ begun.reply) × RestsAt shown new begun.coming.texts begun.coming.to → HasMade shown mid new → IsCountedIn mid.stage mid.commits new.commits (shown new.disk).contents → new.packs ≡ packs_to mid
      → (HasNoChange mid → shown new.disk ≡ shown mid.disk)
      → ForSome (shown mid.disk).contents (λ files. LeavesOnly (shown mid.disk) (shown new.disk) (OpensToEither mid.held texts begun.coming))
      → HasAnswered shown old new texts user moment command reply
  answered_by reply done made counted packed left crash = record {
    coming = begun.coming;
    step = subst (λ (r : Reply). IsTold r (shown old.disk).contents → Step old.rules (state_of texts old.held) user moment command r (state_of begun.coming.texts begun.coming.to)) (sym done.0) step_before;
    rests = done.1;
    change = change;
    fits = fits_before;
    becomes = becomes_before;
    told = subst (λ (r : Reply). IsToldBy r change) (sym done.0) begun.begun.told;
    packs_counted = packed ∙ packs_before;
    counted = subst (λ (n : ℕ). IsCounted change n new.commits (shown new.disk).contents) commits
        (subst (λ (s : Stage). IsCountedIn s mid.commits new.commits (shown new.disk).contents) begun.begun.stage counted);
    somewhere = subst (λ (r : Reply). IsAnsweredSomewhere old.rules old.held user moment command r change) (sym done.0) somewhere_before;
    idle = λ nothing. idle_before left (subst (ChangesNothing command) done.0 nothing);
    headers = λ in_place was there now here.
        subst (λ (r : Reply). KeepsHeaders change r old.held begun.coming.to was now) (sym done.0) (headers_then made in_place was there now here);
    index = index_then made;
    packs = λ was there now here. subst (λ (r : Reply). PacksHeaders r begun.coming.to now) (sym done.0) (packs_then made was there now here);
    crash = crash_before crash;
  }

  -- stopped
  stopped_by : IsDoubtful shown new texts (Some begun.coming) → ForSome (shown new.disk).contents (OpensToEither mid.held texts begun.coming) → new.held ≡ mid.held → new.commits ≡ next_commit mid.commits → (new.packs ≡ mid.packs) × (packs_to new ≡ packs_to mid) → (HasNoChange mid → ⊥)
      → ForSome (shown mid.disk).contents (λ files. LeavesOnly (shown mid.disk) (shown new.disk) (OpensToEither mid.held texts begun.coming))
      → HasStoppedIn shown old new texts user moment command
  stopped_by doubt opens stays spent unpacked some crash = record {
    coming = Some begun.coming;
    change = (begun.reply, change, (λ nothing. some (begun.idle nothing).0), fits_before, becomes_before, somewhere_before, step_before, begun.begun.told, unpacked.1 ∙ packs_before);
    doubt = doubt;
    opens = λ files there. subst (λ (l : Loaded). OpensToEither l texts begun.coming files) loaded (opens files there);
    loaded = stays ∙ loaded;
    commits = spent ∙ ap next_commit commits;
    packs = unpacked.0 ∙ packs;
    crash = crash_before crash;
  }

module _ {D : Type 0} (shown : D → Device) where
  -- a call is begun
  pub has_begun : (old mid : OpenArea D) (texts : List ℕ) (user : User) (moment : ℕ) (command : Command) (began : Result (Unit {0}) AreaError) (value : Unit {0})
      → BeginsCall shown old mid user moment command began → began ≡ Ok value → IsResting shown old texts → HasBegun shown mid
  has_begun old mid texts user moment command began value begins ok resting =
      let is = ok_gives began value _ ok begins.begun texts resting in
      record { texts = texts; reply = is.reply; coming = is.coming; begun = is.begun }

  -- a call that is begun and ends
  pub meets : (old mid new : OpenArea D) (user : User) (moment : ℕ) (command : Command) (began : Result (Unit {0}) AreaError) (value : Unit {0}) (result : Result Reply AreaError)
      → BeginsCall shown old mid user moment command began → began ≡ Ok value → EndsCall shown is_area_fault mid new result → MeetsCall shown old new user moment command result
  meets old mid new user moment command began value result begins ok ends =
      record {
        answered = if_ok_then2 result _ _ _ ends.done (on_ok_both result _ _ ends.made (on_ok_both result _ _ ends.counted ends.packs)) (λ reply done made texts resting.
            let is = ok_gives began value _ ok begins.begun texts resting in
            answered_by shown old mid new texts user moment command begins.reads (ok_gives began value _ ok begins.idle) resting begins.loaded begins.commits begins.packs begins.rules is reply (done texts is.reply is.coming is.begun) made.0 made.1.0 made.1.1 (λ none. (ends.idle none).1) (ends.crash texts is.reply is.coming is.begun));
        failed = fails_so result _ (λ error. (texts : List ℕ) → IsResting shown old texts → FailsWith shown error old new texts user moment command) (store_fault result ends.fault) (stopped_some result _ _ _ (on_err_both result _ _ ends.doubt (on_err_both result _ _ ends.opens (on_err_both result _ _ ends.loaded (on_err_both result _ _ ends.spent ends.unpacked)))) ends.idle) (λ stopped texts resting.
            let is = ok_gives began value _ ok begins.begun texts resting in
            stopped_by shown old mid new texts user moment command begins.reads (ok_gives began value _ ok begins.idle) resting begins.loaded begins.commits begins.packs begins.rules is (stopped.0.0 texts is.reply is.coming is.begun) (stopped.0.1.0 texts is.reply is.coming is.begun) stopped.0.1.1.0 stopped.0.1.1.1.0 stopped.0.1.1.1.1 stopped.1 (ends.crash texts is.reply is.coming is.begun));
        faults = counts_behind is_area_fault (shown old.disk) (shown mid.disk) (shown new.disk) result (ok_gives began value _ ok begins.faults.quiet) ends.faults;
        alike = ends.alike ∙ alike_by (shown old.disk) (shown mid.disk) (touches_by command (shown old.disk) (shown mid.disk) begins.reads);
        rules = ends.rules ∙ begins.rules;
        copies = λ in_place. on_either result _ _ (new.packer ≡ old.packer) ends.copies ends.kept
            (λ done. done ∙ ok_gives began value _ ok begins.kind in_place ∙ begins.copies in_place) (λ kept. kept ∙ begins.copies in_place);
        packed = ends.packed;
        unspent = λ wanting. absurd (false≢true (err_gives result OutOfMemory (λ error. is_area_fault error ≡ true) wanting ends.fault));
        unpacked = λ wanting. absurd (false≢true (err_gives result OutOfMemory (λ error. is_area_fault error ≡ true) wanting ends.fault));
      }

  -- a call that is not begun
  pub meets_not : (old new : OpenArea D) (user : User) (moment : ℕ) (command : Command) (began : Result (Unit {0}) AreaError) (error : AreaError)
      → BeginsCall shown old new user moment command began → began ≡ Err error → MeetsCall shown old new user moment command (Err error)
  meets_not old new user moment command began error begins refused = record {
    answered = tt;
    failed = λ texts resting. fails_with shown error old new texts user moment command begins.reads begins.loaded begins.commits begins.packs resting (err_gives began error _ refused begins.failed texts resting);
    faults = record { quiet = tt; later = begins.faults.later; cause = err_gives began error _ refused begins.faults.cause };
    alike = alike_by (shown old.disk) (shown new.disk) (touches_by command (shown old.disk) (shown new.disk) begins.reads);
    rules = begins.rules;
    copies = begins.copies;
    packed = tt;
    unspent = λ wanting. begins.commits;
    unpacked = λ wanting. begins.packs;
  }
