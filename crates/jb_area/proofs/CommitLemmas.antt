-- What a commit and a settling of a change mean for the area.
use Rattle.std.proofs.Common.{◌≡◌, inl, inr, ℕ, ◌^◌, ◌<◌, List, [], ◌∷◌, Bool, true, false, Option, None, Some, Result, Ok, Err, IfErr, ap, sym, refl, ◌∙◌, subst}
use Rattle.std.specs.Option.{ForSome, option_map}
use Rattle.jb_disk.specs.RedoView.{RedoView}
use Rattle.jb_disk.specs.Device.{Device}
use Rattle.jb_disk.specs.Files.{Files}
use Rattle.jb_disk.specs.Images.{Images}
use Rattle.jb_disk.specs.Runs.{IsAllSynced, LeavesNow, LeavesOnly, Shows}
use Rattle.jb_disk.proofs.RunLemmas.{runs-refl, runs-weaken}
use Rattle.jb_journal.proofs.SettleLemmas.{doubt_replays}
use Rattle.jb_journal.specs.Commit.{AgreeButJournal, IsBeforeOrAfter, IsReady, ReplaysTo, committed}
use Rattle.jb_redo.specs.Changes.{changed}
use Rattle.jb_journal.specs.Doubt.{DoubtReplays, HasStopped, IsInDoubt, IsSettledAt, settled_files}
use Rattle.jb_journal.specs.Opening.{OpensGateFor, WhereTold}
use Rattle.jb_journal.specs.declared.stopped.Stopped.{Stopped}
use Rattle.jb_journal.specs.declared.stopped.Stopped.TheVariants.{Early, Late}
use Rattle.jb_state.specs.declared.loaded.Loaded.{Loaded}
use Rattle.jb_pack.specs.Shadow.{Shadow}
use Rattle.jb_decide.specs.Coming.{BringsComing, Coming, IsChange}
use Rattle.jb_decide.specs.Holds.{HoldsCopies}
use Rattle.jb_area.specs.Commits.{IsAnsweredAs, IsRecorded, IsSettledAs, IsSettledWith, IsStopped, IsStoppedAs, StandsFirm, StandsLate, StaysShutEarly}
use Rattle.jb_area.specs.Holds.{IsAtRest, Opens, OpensToEither}
use Rattle.jb_area.proofs.HoldLemmas.{opens_either, opens_to, ready, recorded_by, rest_opens, rests_settled}

-- a value is not none
some-none : {A : Type 0} (a : A) → Some a ≡ None → ⊥
some-none a is = cc

-- one value is another
pub some-same : {A : Type 0} (a b : A) → Some a ≡ Some b → a ≡ b
some-same a b is = cc

-- where a disk that tells nothing goes on so, one that tells has told
pub told_before : (old new : Device) → (old.contents ≡ None → new.contents ≡ None) → (P : Type 0) → ForSome old.contents (λ was. P) → (files : Files) → new.contents ≡ Some files → P
told_before old new silent P here files there = by_contents old.contents refl
  where
    by_contents : (o : Option Files) → old.contents ≡ o → P
    by_contents None none = absurd (some-none files (sym there ∙ silent none))
    by_contents (Some was) some = here was some

-- what a crash now leaves has a weaker property
leaves_weaken : (P Q : Files → Type 0) → ((files : Files) → P files → Q files) → (moments : List Images) → LeavesNow P moments → LeavesNow Q moments
leaves_weaken P Q then [] leaves = tt
leaves_weaken P Q then (now ∷ earlier) leaves = λ files image. then files (leaves files image)

-- and so what it leaves at any moment
pub only_weaken : (P Q : Files → Type 0) (old new : Device) → ((files : Files) → P files → Q files) → LeavesOnly old new P → LeavesOnly old new Q
only_weaken P Q old new then only = record {
  first = leaves_weaken P Q then old.moments only.first;
  run = runs-weaken P Q then old.moments new.moments only.run;
}

module _ (number : ℕ) (change : RedoView) where
  -- over files at rest the change may be committed
  pub ready_as : (from : Loaded) (texts : List ℕ) (copies : Option Shadow) (coming : Coming) (device : Device) → number < 2 ^ 64 → IsSettledWith from texts copies device → IsChange device.contents change from texts copies coming
      → ForSome device.contents (IsReady number change)
  ready_as from texts copies coming device numbered settled is files there =
      ready number change from texts copies coming files numbered (is.brings files there) (settled.settled.rests files there) (settled.has files there)

  -- whose journal has its head and the record
  pub recorded_as : (old new : Device) (from : Loaded) (texts : List ℕ) (copies : Option Shadow) → new.contents ≡ option_map (committed number change) old.contents → IsSettledWith from texts copies old
      → ForSome new.contents (IsRecorded number change)
  recorded_as old new from texts copies done settled files there = by_contents old.contents refl
    where
      by_contents : (o : Option Files) → old.contents ≡ o → IsRecorded number change files
      by_contents None none = absurd (some-none files (sym there ∙ done ∙ ap (option_map (committed number change)) none))
      by_contents (Some was) some =
          subst (IsRecorded number change) (some-same _ _ (sym (done ∙ ap (option_map (committed number change)) some) ∙ there))
          (recorded_by number change was (settled.settled.rests was some).plain.long)

  -- one that is stopped leaves it in doubt
  pub stopped_as : (stopped : Stopped) (old new : Device) (from : Loaded) (texts : List ℕ) (copies : Option Shadow) → number < 2 ^ 64 → (old.contents ≡ None → new.contents ≡ None)
      → ForSome old.contents (λ start. Shows (IsInDoubt stopped number change start) new) → IsSettledWith from texts copies old → IsStoppedAs stopped change from texts copies new
  stopped_as stopped old new from texts copies numbered silent doubt settled =
      told_before old new silent (IsStopped stopped change from texts copies new)
      (λ was some. record { number = number; numbered = numbered; start = was; rests = settled.settled.rests was some; has = settled.has was some; shows = doubt was some })

module _ (change : RedoView) where
  -- a commit that is done leaves the area that was to come
  pub done_as : (old new : Device) (from : Loaded) (texts : List ℕ) (copies : Option Shadow) (coming : Coming) → (old.contents ≡ None → new.contents ≡ None) → ForSome old.contents (λ start. Shows (IsSettledAt (changed change start)) new) → IsAllSynced new
      → IsSettledWith from texts copies old → IsChange old.contents change from texts copies coming → IsSettledAs coming.to coming.texts new
  done_as old new from texts copies coming silent done synced settled is = record {
    rests = λ files there. told_before old new silent (IsAtRest coming.to coming.texts files)
        (λ was some. rests_settled (changed change was) files coming.to coming.texts
        ((is.brings was some).made was (record { holds = (settled.settled.rests was some).holds; has = settled.has was some })) ((done was some).read files there)) files there;
    synced = synced;
  }

  -- and the files with the change done, but for the journal
  pub made_as : (old new : Device) → ForSome old.contents (λ start. Shows (IsSettledAt (changed change start)) new)
      → ForSome old.contents (λ was. ForSome new.contents (λ now. AgreeButJournal now (changed change was)))
  made_as old new done was there now here = ((done was there).read now here).same

  -- and after an early stop has left the gate shut
  pub shut_as : (result : Result (Unit {0}) Stopped) (old new : Device)
      → ForSome old.contents (λ start. WhereTold old.moments (OpensGateFor result (ReplaysTo (changed change start)) old.moments new.moments)) → IfErr result (λ stopped. StaysShutEarly stopped old new)
  shut_as (Ok value) old new opening = tt
  shut_as (Err Early) old new opening = opening
  shut_as (Err Late) old new opening = tt

  -- what a crash meanwhile leaves opens to one of the two
  pub crash_as : (old new : Device) (from : Loaded) (texts : List ℕ) (copies : Option Shadow) (coming : Coming) (start : Files) → IsAtRest from texts start → HoldsCopies copies start → BringsComing change from texts copies coming
      → LeavesOnly old new (IsBeforeOrAfter change start) → LeavesOnly old new (OpensToEither from texts coming)
  crash_as old new from texts copies coming start rests has is =
      only_weaken (IsBeforeOrAfter change start) (OpensToEither from texts coming) old new
      (λ files either. opens_either change from texts copies coming start files is (record { holds = rests.holds; has = has }) either)

  -- what is in doubt may be settled
  pub has_stopped : (stopped : Stopped) (device : Device) (from : Loaded) (texts : List ℕ) (copies : Option Shadow) (coming : Coming) → IsStopped stopped change from texts copies device → BringsComing change from texts copies coming
      → HasStopped stopped change device
  has_stopped stopped device from texts copies coming doubt is = record {
    number = doubt.number;
    start = doubt.start;
    ready = ready doubt.number change from texts copies coming doubt.start doubt.numbered is doubt.rests doubt.has;
    shows = doubt.shows;
  }

  -- each file that the doubt may leave opens to one of the two
  pub doubt_opens : (stopped : Stopped) (from : Loaded) (texts : List ℕ) (copies : Option Shadow) (coming : Coming) (start files : Files) → IsAtRest from texts start → HoldsCopies copies start → BringsComing change from texts copies coming
      → DoubtReplays stopped change start files → OpensToEither from texts coming files
  doubt_opens Early from texts copies coming start files rests has is replays = opens_either change from texts copies coming start files is (record { holds = rests.holds; has = has }) replays
  doubt_opens Late from texts copies coming start files rests has is replays =
      inr (opens_to (changed change start) files coming.to coming.texts (is.made start (record { holds = rests.holds; has = has })) replays)

  -- what is read then opens to one of the two
  pub stopped_opens : (stopped : Stopped) (device : Device) (from : Loaded) (texts : List ℕ) (copies : Option Shadow) (coming : Coming) → IsStoppedAs stopped change from texts copies device → IsChange device.contents change from texts copies coming
      → ForSome device.contents (OpensToEither from texts coming)
  stopped_opens stopped device from texts copies coming doubt is files there =
      let in_doubt = doubt files there in
      let brings = is.brings files there in
      let may = ready in_doubt.number change from texts copies coming in_doubt.start in_doubt.numbered brings in_doubt.rests in_doubt.has in
      doubt_opens stopped from texts copies coming in_doubt.start files in_doubt.rests in_doubt.has brings (doubt_replays in_doubt.number change in_doubt.start may stopped files (in_doubt.shows.read files there))

  -- and after a late stop what is read, and what a crash now leaves, opens to the one to come
  pub late_stands : (stopped : Stopped) (device : Device) (from : Loaded) (texts : List ℕ) (copies : Option Shadow) (coming : Coming) → IsStoppedAs stopped change from texts copies device → IsChange device.contents change from texts copies coming
      → StandsLate stopped coming device
  late_stands Early device from texts copies coming doubt is = tt
  late_stands Late device from texts copies coming doubt is = λ files there.
      let in_doubt = doubt files there in
      let brings = is.brings files there in
      let may = ready in_doubt.number change from texts copies coming in_doubt.start in_doubt.numbered brings in_doubt.rests in_doubt.has in
      let opens : (left : Files) → IsInDoubt Late in_doubt.number change in_doubt.start left → Opens coming.to coming.texts left =
      λ left late. opens_to (changed change in_doubt.start) left coming.to coming.texts (brings.made in_doubt.start (record { holds = in_doubt.rests.holds; has = in_doubt.has })) (doubt_replays in_doubt.number change in_doubt.start may Late left late) in
      record { read = λ left told. opens left (in_doubt.shows.read left told); left = leaves_weaken _ _ opens device.moments in_doubt.shows.left }

  -- and so does what a crash leaves while it is settled
  pub stands_firm : (stopped : Stopped) (old new : Device) (from : Loaded) (texts : List ℕ) (copies : Option Shadow) (coming : Coming) → IsStoppedAs stopped change from texts copies old → IsChange old.contents change from texts copies coming
      → ((number : ℕ) (start : Files) → IsReady number change start → Shows (IsInDoubt stopped number change start) old → LeavesOnly old new (DoubtReplays stopped change start)) → StandsFirm stopped coming old new
  stands_firm Early old new from texts copies coming doubt is crash = tt
  stands_firm Late old new from texts copies coming doubt is crash = λ files there.
      let in_doubt = doubt files there in
      let brings = is.brings files there in
      only_weaken (ReplaysTo (changed change in_doubt.start)) (Opens coming.to coming.texts) old new
      (λ left replays. opens_to (changed change in_doubt.start) left coming.to coming.texts (brings.made in_doubt.start (record { holds = in_doubt.rests.holds; has = in_doubt.has })) replays)
      (crash in_doubt.number in_doubt.start (ready in_doubt.number change from texts copies coming in_doubt.start in_doubt.numbered brings in_doubt.rests in_doubt.has) in_doubt.shows)

  -- settled as it is settled_files
  answered_rests : (stands : Bool) (from : Loaded) (texts : List ℕ) (copies : Option Shadow) (coming : Coming) (start : Files) (device : Device) → IsAtRest from texts start → HoldsCopies copies start → BringsComing change from texts copies coming
      → ForSome device.contents (IsSettledAt (settled_files stands change start)) → IsAllSynced device → IsAnsweredAs stands from texts coming device
  answered_rests true from texts copies coming start device rests has is settled synced = record {
    rests = λ files there. rests_settled (changed change start) files coming.to coming.texts
        (is.made start (record { holds = rests.holds; has = has })) (settled files there);
    synced = synced;
  }
  answered_rests false from texts copies coming start device rests has is settled synced = record {
    rests = λ files there. rests_settled start files from texts rests.holds (settled files there);
    synced = synced;
  }

  -- settled as it is settled_files, where nothing is told
  silent_answer : (stands : Bool) (from : Loaded) (texts : List ℕ) (coming : Coming) (device : Device) → device.contents ≡ None → IsAnsweredAs stands from texts coming device
  silent_answer true from texts coming device none = record { rests = λ files there. absurd (some-none files (sym there ∙ none)); synced = λ files there. absurd (some-none files (sym there ∙ none)) }
  silent_answer false from texts coming device none = record { rests = λ files there. absurd (some-none files (sym there ∙ none)); synced = λ files there. absurd (some-none files (sym there ∙ none)) }

  -- what a settling leaves
  pub answer_as : (stands : Bool) (stopped : Stopped) (old new : Device) (from : Loaded) (texts : List ℕ) (copies : Option Shadow) (coming : Coming) → (old.contents ≡ None → new.contents ≡ None)
      → ((number : ℕ) (start : Files) → IsReady number change start → Shows (IsInDoubt stopped number change start) old → Shows (IsSettledAt (settled_files stands change start)) new)
      → ((number : ℕ) (start : Files) → IsReady number change start → Shows (IsInDoubt stopped number change start) old → IsAllSynced new)
      → IsStoppedAs stopped change from texts copies old → IsChange old.contents change from texts copies coming → IsAnsweredAs stands from texts coming new
  answer_as stands stopped old new from texts copies coming silent answer durable doubt is = by_contents old.contents refl
    where
      by_contents : (o : Option Files) → old.contents ≡ o → IsAnsweredAs stands from texts coming new
      by_contents None none = silent_answer stands from texts coming new (silent none)
      by_contents (Some was) some =
          let in_doubt = doubt was some in
          let may = ready in_doubt.number change from texts copies coming in_doubt.start in_doubt.numbered (is.brings was some) in_doubt.rests in_doubt.has in
          answered_rests stands from texts copies coming in_doubt.start new in_doubt.rests in_doubt.has (is.brings was some) (answer in_doubt.number in_doubt.start may in_doubt.shows).read (durable in_doubt.number in_doubt.start may in_doubt.shows)

  -- and a settling that is stopped
  pub again_as : (stopped again : Stopped) (old new : Device) (from : Loaded) (texts : List ℕ) (copies : Option Shadow) (coming : Coming) → (old.contents ≡ None → new.contents ≡ None)
      → ((number : ℕ) (start : Files) → IsReady number change start → Shows (IsInDoubt stopped number change start) old → Shows (IsInDoubt again number change start) new)
      → IsStoppedAs stopped change from texts copies old → IsChange old.contents change from texts copies coming → IsStoppedAs again change from texts copies new
  again_as stopped again old new from texts copies coming silent still doubt is =
      told_before old new silent (IsStopped again change from texts copies new) (λ was some.
      let in_doubt = doubt was some in
      let may = ready in_doubt.number change from texts copies coming in_doubt.start in_doubt.numbered (is.brings was some) in_doubt.rests in_doubt.has in
      record { number = in_doubt.number; numbered = in_doubt.numbered; start = in_doubt.start; rests = in_doubt.rests; has = in_doubt.has; shows = still in_doubt.number in_doubt.start may in_doubt.shows })

  -- what a crash during a settling leaves
  pub settling_as : (stopped : Stopped) (old new : Device) (from : Loaded) (texts : List ℕ) (copies : Option Shadow) (coming : Coming) → IsStopped stopped change from texts copies old → BringsComing change from texts copies coming
      → ((number : ℕ) (start : Files) → IsReady number change start → Shows (IsInDoubt stopped number change start) old → LeavesOnly old new (DoubtReplays stopped change start))
      → LeavesOnly old new (OpensToEither from texts coming)
  settling_as stopped old new from texts copies coming doubt is crash =
      only_weaken (DoubtReplays stopped change doubt.start) (OpensToEither from texts coming) old new
      (λ files replays. doubt_opens stopped from texts copies coming doubt.start files doubt.rests doubt.has is replays)
      (crash doubt.number doubt.start (ready doubt.number change from texts copies coming doubt.start doubt.numbered is doubt.rests doubt.has) doubt.shows)

-- a crash of a settled area leaves what opens to it
pub settled_opens : (loaded : Loaded) (texts : List ℕ) (device : Device) (was : Files) → device.contents ≡ Some was → IsSettledAs loaded texts device
    → LeavesNow (Opens loaded texts) device.moments
settled_opens loaded texts device was there settled =
    leaves_weaken (λ left. left ≡ was) (Opens loaded texts) (λ files same. subst (Opens loaded texts) (sym same) (rest_opens loaded texts was (settled.rests was there)))
    device.moments (settled.synced was there)

-- and so meanwhile, where nothing is done
pub idle_opens : (from : Loaded) (texts : List ℕ) (coming : Coming) (device : Device) (was : Files) → device.contents ≡ Some was → IsSettledAs from texts device
    → LeavesOnly device device (OpensToEither from texts coming)
idle_opens from texts coming device was there settled = record {
  first = leaves_weaken (Opens from texts) (OpensToEither from texts coming) (λ files opens. inl opens) device.moments (settled_opens from texts device was there settled);
  run = runs-refl (OpensToEither from texts coming) device.moments device.moments refl;
}
