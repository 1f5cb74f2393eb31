-- How a run of calls goes on.
use Rattle.std.proofs.Common.{◌≡◌, ◌⊎◌, inl, inr, ℕ, ◌+◌, ◌≤◌, length, List, [], ◌∷◌, ◌++◌, Option, Some, None, refl, sym, ◌∙◌, ap, subst, arith, Result, Ok, Err, true, false}
use Rattle.std.proofs.lemmas.List.{append_assoc}
use Rattle.std.specs.Prelude.{IsErr, OnOk, is_some}
use Rattle.std.specs.Option.{ForSome, option_map}
use Rattle.jb_disk.specs.declared.file.FileId.{FileId}
use Rattle.jb_disk.specs.Files.{Files, InFile, IsResized, overwritten, written}
use Rattle.jb_disk.specs.Images.{Images, just_synced, torn, cut, with_image}
use Rattle.jb_disk.specs.Device.{Device, OnlyReads, Tears, Resizes, Syncs, MayChange, Turns, IsPast, FailsBy, TellsAlike, TellsAnImage, and_then}
use Rattle.jb_disk.specs.Moments.{AtEach, IsPossible, MightLeave}
use Rattle.jb_disk.specs.Steps.{Torn, Cut}
use Rattle.jb_disk.specs.Runs.{Leaves, LeavesNow, LeavesAlways, Runs, LeavesOnly, Shows, Keeps}
use Rattle.jb_disk.specs.FileLaws.{InFile-with, length-overwritten}
use Rattle.jb_disk.specs.ImageLaws.{get-before, get-behind}
use Rattle.std.proofs.lemmas.Bool.{cases_lt}
use Rattle.jb_disk.proofs.StepLemmas.{image-before_write, image-before_cut, image-before_sync, image-synced}

-- two stretches of moments
always-append : (P : Files → Type 0) (later earlier : List Images) → LeavesAlways P later → LeavesAlways P earlier → LeavesAlways P (later ++ earlier)
always-append P [] earlier none was = was
always-append P (now ∷ later) earlier all was = (all.0, always-append P later earlier all.1 was)

-- a weaker property at each moment
always-weaken : (P Q : Files → Type 0) → ((files : Files) → P files → Q files) → (moments : List Images) → LeavesAlways P moments → LeavesAlways Q moments
always-weaken P Q weaker [] none = tt
always-weaken P Q weaker (now ∷ earlier) all = (λ files image. weaker files (all.0 files image), always-weaken P Q weaker earlier all.1)

-- no moment has come
pub runs-refl : (P : Files → Type 0) (moments now : List Images) → now ≡ moments → Runs P moments now
runs-refl P moments now same = record { later = []; since = same; only = tt }

-- one run after another
pub runs-then : (P : Files → Type 0) (a b c : List Images) → Runs P a b → Runs P b c → Runs P a c
runs-then P a b c first second = record {
  later = second.later ++ first.later;
  since = second.since ∙ ap (λ (l : List Images). second.later ++ l) first.since ∙ sym (append_assoc second.later first.later a);
  only = always-append P second.later first.later second.only first.only;
}

-- a weaker property of a run
pub runs-weaken : (P Q : Files → Type 0) → ((files : Files) → P files → Q files) → (a b : List Images) → Runs P a b → Runs Q a b
runs-weaken P Q weaker a b run = record { later = run.later; since = run.since; only = always-weaken P Q weaker run.later run.only }

-- a call that may have changed what a crash leaves
moves : (P : Files → Type 0) (change : Images → Images) (old new : List Images) → MayChange change old new → ((now : Images) → Leaves P now → Leaves P (change now)) → LeavesNow P old → LeavesNow P new × Runs P old new
moves P change old new (inl same) kept was = (subst (LeavesNow P) (sym same) was, runs-refl P old new same)
moves P change [] new (inr more) kept was = (subst (LeavesNow P) (sym more) tt, runs-refl P [] new more)
moves P change (now ∷ earlier) new (inr more) kept was =
    let here = kept now was in
    (subst (LeavesNow P) (sym more) here, record { later = change now ∷ []; since = more; only = (here, tt) })

-- what is read is one of the images, where the disk tells them
pub told-now : (P : Files → Type 0) (device : Device) (now : Images) (earlier : List Images) → TellsAnImage device → device.moments ≡ now ∷ earlier → LeavesNow P device.moments → ForSome device.contents P
told-now P device now earlier tells is all files some = subst (LeavesNow P) is all files (tells.read files now earlier some is)

-- nothing is done
pub keeps-refl : (P : Files → Type 0) (device : Device) → Keeps P device device
keeps-refl P device = record { shows = λ all. all; run = λ all. runs-refl P device.moments device.moments refl }

-- one run after another keeps it
pub keeps-then : (P : Files → Type 0) (a b c : Device) → Keeps P a b → Keeps P b c → Keeps P a c
keeps-then P a b c first second = record {
  shows = λ all. second.shows (first.shows all);
  run = λ all. runs-then P a.moments b.moments c.moments (first.run all) (second.run (first.shows all));
}

-- what is shown where nothing is read otherwise and a crash leaves the same
shows-same : (P : Files → Type 0) (old new : Device) → new.contents ≡ old.contents → new.moments ≡ old.moments → Shows P old → Shows P new
shows-same P old new contents moments all = record { read = λ files there. all.read files (sym contents ∙ there); left = subst (LeavesNow P) (sym moments) all.left }

-- a call that only reads
pub keeps-reads : (P : Files → Type 0) (old new : Device) → OnlyReads old new → Keeps P old new
keeps-reads P old new same = record {
  shows = shows-same P old new same.contents same.moments;
  run = λ all. runs-refl P old.moments new.moments same.moments;
}

-- what is read after a call that was not done
read-refused : (P : Files → Type 0) (old new : Device) (moments : List Images) → new.moments ≡ moments → TellsAnImage new → (moments ≡ [] → old.moments ≡ []) → (old.moments ≡ [] → new.contents ≡ old.contents)
    → LeavesNow P new.moments → ForSome old.contents P → ForSome new.contents P
read-refused P old new [] is tells empty steady left read = λ files there. read files (sym (steady (empty refl)) ∙ there)
read-refused P old new (now ∷ earlier) is tells empty steady left read = told-now P new now earlier tells is left

-- a disk that told images tells them on
none-before : (change : Images → Images) (old new : List Images) → MayChange change old new → new ≡ [] → old ≡ []
none-before change old new (inl same) none = sym same ∙ none
none-before change [] new (inr more) none = refl
none-before change (now ∷ earlier) new (inr more) none = absurd (some-moment (change now) (now ∷ earlier) (sym more ∙ none))
  where
    some-moment : (first : Images) (rest : List Images) → (first ∷ rest) ≡ [] → ⊥
    some-moment first rest is = cc

-- false is not true
not-true : false ≡ true → ⊥
not-true is = cc

-- where nothing was told, and as much is told now, nothing is told
pub stays_silent : (was now : Option Files) → is_some now ≡ is_some was → was ≡ None → now ≡ None
stays_silent was None alike none = refl
stays_silent None (Some files) alike none = absurd (not-true (sym alike))
stays_silent (Some before) (Some files) alike none = absurd (cc)

-- a disk that is only read tells as before
pub reads_alike : (old new : Device) → OnlyReads old new → TellsAlike old new
reads_alike old new reads = ap is_some reads.contents

-- a write over bytes that are there
torn-overwritten : (at : ℕ) (bytes old : List ℕ) → at + length bytes ≤ length old → Torn at (length bytes) old (overwritten at bytes old)
torn-overwritten at bytes old within = record {
  size = length-overwritten at bytes old within;
  below = λ i under. get-before at bytes old within i under;
  above = λ i over. get-behind at bytes old within i over;
}

-- a range that was not refused is within the file
pub within-or-refused : {T E : Type 0} (f : FileId) (end : ℕ) (files : Files) (old new : Device) (result : Result T E) → old.contents ≡ Some files → FailsBy (IsPast old.contents f end) old new result
    → IsErr result ⊎ (end ≤ length (files f))
within-or-refused f end files old new result some cause = elim (cases_lt (length (files f)) end) [
  | inl past ↦ inl (cause.refused (subst (λ (o : Option Files). IsPast o f end) (sym some) past)).0
  | inr within ↦ inr within
]

-- what is read after a write
read-written : {T E : Type 0} (P : Files → Type 0) (f : FileId) (at : ℕ) (bytes : List ℕ) (old new : Device) (result : Result T E) → TellsAnImage new → Tears f at (length bytes) old new result
    → OnOk result (new.contents ≡ option_map (written f at bytes) old.contents) → FailsBy (IsPast old.contents f (at + length bytes)) old new result
    → ((before after : Files) → P before → InFile f (Torn at (length bytes)) before after → P after) → LeavesNow P new.moments → ForSome old.contents P → ForSome new.contents P
read-written P f at bytes old new (Ok value) tells tears done cause kept left read = by_contents old.contents refl
  where
    by_contents : (contents : Option Files) → old.contents ≡ contents → ForSome new.contents P
    by_contents None none = λ files there. let nothing : None ≡ Some files = sym (done ∙ ap (option_map (written f at bytes)) none) ∙ there in absurd (cc)
    by_contents (Some before) some = λ files there.
        let same : Some (written f at bytes before) ≡ Some files = sym (done ∙ ap (option_map (written f at bytes)) some) ∙ there in
        let is : written f at bytes before ≡ files = cc in
        elim (within-or-refused f (at + length bytes) before old new _ some cause) [
          | inl refused ↦ absurd (not-true refused)
          | inr within ↦ subst P is (kept before (written f at bytes before) (read before some) (InFile-with f (overwritten at bytes (before f)) before (Torn at (length bytes)) (torn-overwritten at bytes (before f) within)))
        ]
read-written P f at bytes old new (Err error) tells tears done cause kept left read =
    read-refused P old new new.moments refl tells (none-before _ old.moments new.moments tears.moments) tears.tried.steady left read

-- a write, where any bytes in its range keep the property
pub keeps-write : {T E : Type 0} (P : Files → Type 0) (f : FileId) (at : ℕ) (bytes : List ℕ) (old new : Device) (result : Result T E) → TellsAnImage new → Tears f at (length bytes) old new result
    → OnOk result (new.contents ≡ option_map (written f at bytes) old.contents) → FailsBy (IsPast old.contents f (at + length bytes)) old new result
    → ((before after : Files) → P before → InFile f (Torn at (length bytes)) before after → P after) → Keeps P old new
keeps-write P f at bytes old new result tells tears done cause kept =
    let step : LeavesNow P old.moments → LeavesNow P new.moments × Runs P old.moments new.moments =
    moves P (with_image f (torn at (length bytes))) old.moments new.moments tears.moments (λ now was files image.
    let back = image-before_write f at (length bytes) now files image in
    kept back.0 files (was back.0 back.1) back.2) in
    record {
      shows = λ all. record { read = read-written P f at bytes old new result tells tears done cause kept (step all.left).0 all.read; left = (step all.left).0 };
      run = λ all. (step all.left).1;
    }

-- the lengths that a crash may leave, where there is an image
lengths-between : (moments : List Images) → AtEach IsPossible moments → (f : FileId) (now : Images) (earlier : List Images) → moments ≡ now ∷ earlier → (now f).least ≤ (now f).greatest
lengths-between moments each f now earlier is =
    let possible = (subst (AtEach IsPossible) is each).0 in
    let left = possible.image f in
    let a = left.no_shorter in
    let b = left.no_longer in
    omega arith

-- a file of its new length is one that was cut or grew
cut-resized : (len : ℕ) (old new : List ℕ) → IsResized len old new → Cut len old new
cut-resized len old new resized =
    let size = resized.size in
    record { no_shorter = omega arith; no_longer = omega arith; below = resized.same }

-- what is read after a change of length
read-resized : {T E : Type 0} (P : Files → Type 0) (f : FileId) (len : ℕ) (old new : Device) (result : Result T E) → TellsAnImage new → Resizes f len old new result
    → ((before after : Files) → P before → InFile f (Cut len) before after → P after) → LeavesNow P new.moments → ForSome old.contents P → ForSome new.contents P
read-resized P f len old new (Ok value) tells resizes kept left read = turned old.contents new.contents resizes.done read
  where
    turned : (before after : Option Files) → Turns (InFile f (IsResized len)) before after → ForSome before P → ForSome after P
    turned None None done here = λ files there. absurd (cc)
    turned None (Some now) done here = absurd done
    turned (Some was) None done here = absurd done
    turned (Some was) (Some now) done here = λ files there.
        let same : now ≡ files = cc in
        subst P same (kept was now (here was refl) (record { here = cut-resized len (was f) (now f) done.here; others = done.others }))
read-resized P f len old new (Err error) tells resizes kept left read =
    read-refused P old new new.moments refl tells (none-before _ old.moments new.moments resizes.moments) resizes.tried.steady left read

-- a change of length, where any length between and any bytes past the lesser one keep the property
pub keeps-resize : {T E : Type 0} (P : Files → Type 0) (f : FileId) (len : ℕ) (old new : Device) (result : Result T E) → TellsAnImage old → TellsAnImage new → Resizes f len old new result
    → ((before after : Files) → P before → InFile f (Cut len) before after → P after) → Keeps P old new
keeps-resize P f len old new result tells_old tells_new resizes kept =
    let step : LeavesNow P old.moments → LeavesNow P new.moments × Runs P old.moments new.moments = moves_cut old.moments refl resizes.moments in
    record {
      shows = λ all. record { read = read-resized P f len old new result tells_new resizes kept (step all.left).0 all.read; left = (step all.left).0 };
      run = λ all. (step all.left).1;
    }
  where
    moves_cut : (moments : List Images) → old.moments ≡ moments → MayChange (with_image f (cut len)) moments new.moments → LeavesNow P moments → LeavesNow P new.moments × Runs P moments new.moments
    moves_cut moments is (inl same) was = (subst (LeavesNow P) (sym same) was, runs-refl P moments new.moments same)
    moves_cut [] is (inr more) was = (subst (LeavesNow P) (sym more) tt, runs-refl P [] new.moments more)
    moves_cut (now ∷ earlier) is (inr more) was =
        let between = lengths-between old.moments tells_old.each f now earlier is in
        let here : Leaves P (with_image f (cut len) now) = λ files image. (let back = image-before_cut f len now files between image in kept back.0 files (was back.0 back.1) back.2) in
        (subst (LeavesNow P) (sym more) here, record { later = with_image f (cut len) now ∷ []; since = more; only = (here, tt) })

-- a sync that was done
keeps-synced : (P : Files → Type 0) (f : FileId) (old new : Device) → TellsAnImage old → TellsAnImage new → new.contents ≡ old.contents
    → ForSome old.contents (λ files. new.moments ≡ and_then (with_image f (λ _. just_synced (files f))) old.moments) → Keeps P old new
keeps-synced P f old new tells_old tells_new same done =
    let step : LeavesNow P old.moments → LeavesNow P new.moments × Runs P old.moments new.moments = by_contents old.contents refl in
    record { shows = λ all. record { read = λ files there. all.read files (sym same ∙ there); left = (step all.left).0 }; run = λ all. (step all.left).1 }
  where
    by_moments : (files : Files) (moments : List Images) → old.contents ≡ Some files → old.moments ≡ moments → new.moments ≡ and_then (with_image f (λ _. just_synced (files f))) moments
        → LeavesNow P moments → LeavesNow P new.moments × Runs P moments new.moments
    by_moments files [] some is more was = (subst (LeavesNow P) (sym more) tt, runs-refl P [] new.moments more)
    by_moments files (now ∷ earlier) some is more was =
        let read = tells_old.read files now earlier some is in
        let here : Leaves P (with_image f (λ _. just_synced (files f)) now) = λ left image. was left (image-before_sync f files now left read image) in
        (subst (LeavesNow P) (sym more) here, record { later = with_image f (λ _. just_synced (files f)) now ∷ []; since = more; only = (here, tt) })

    by_contents : (contents : Option Files) → old.contents ≡ contents → LeavesNow P old.moments → LeavesNow P new.moments × Runs P old.moments new.moments
    by_contents None none was =
        let before = tells_old.both none in
        let after = tells_new.both (same ∙ none) in
        (subst (LeavesNow P) (sym after) tt, runs-refl P old.moments new.moments (after ∙ sym before))
    by_contents (Some files) some was = by_moments files old.moments some refl (done files some) was

-- a sync, done or not
pub keeps-sync : {T E : Type 0} (P : Files → Type 0) (f : FileId) (old new : Device) (result : Result T E) → TellsAnImage old → TellsAnImage new → Syncs f old new result → Keeps P old new
keeps-sync P f old new (Ok value) tells_old tells_new syncs = keeps-synced P f old new tells_old tells_new syncs.kept syncs.done
keeps-sync P f old new (Err error) tells_old tells_new syncs =
    let left : LeavesNow P old.moments → LeavesNow P new.moments = subst (LeavesNow P) (sym syncs.failed) in
    record {
      shows = λ all. record {
        read = read-refused P old new new.moments refl tells_new (λ none. sym syncs.failed ∙ none) syncs.tried.steady (left all.left) all.read;
        left = left all.left;
      };
      run = λ all. runs-refl P old.moments new.moments syncs.failed;
    }

-- after a sync that was done a crash leaves of the file what was read
pub durable : (f : FileId) (contents : Files) (old new : Device) → old.contents ≡ Some contents
    → ForSome old.contents (λ files. new.moments ≡ and_then (with_image f (λ _. just_synced (files f))) old.moments) → LeavesNow (λ files. files f ≡ contents f) new.moments
durable f contents old new some done = by_moments old.moments (done contents some)
  where
    by_moments : (moments : List Images) → new.moments ≡ and_then (with_image f (λ _. just_synced (contents f))) moments → LeavesNow (λ files. files f ≡ contents f) new.moments
    by_moments [] more = subst (LeavesNow (λ files. files f ≡ contents f)) (sym more) tt
    by_moments (now ∷ earlier) more = subst (LeavesNow (λ files. files f ≡ contents f)) (sym more) (λ files image. image-synced f contents now files image)

-- a run that keeps the property leaves only files with it
pub leaves_only : (P : Files → Type 0) (old new : Device) → Shows P old → Keeps P old new → LeavesOnly old new P
leaves_only P old new first keeps = record { first = first.left; run = keeps.run first }

-- so it is at any moment since, and before that the files were left before
pub might_leave : (P : Files → Type 0) (a b : List Images) (files : Files) → Runs P a b → MightLeave b files → P files ⊎ MightLeave a files
might_leave P a b files run left = parts run.later run.only (subst (λ (l : List Images). MightLeave l files) run.since left)
  where
    parts : (later : List Images) → LeavesAlways P later → MightLeave (later ++ a) files → P files ⊎ MightLeave a files
    parts [] none was = inr was
    parts (now ∷ later) all (inl image) = inl (all.0 files image)
    parts (now ∷ later) all (inr was) = parts later all.1 was
