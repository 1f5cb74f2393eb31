-- The head of the journal is written.
use Rattle.std.proofs.Common.{◌≡◌, ◌≢◌, ◌⊎◌, inl, inr, ℕ, ◌<◌, ◌≤◌, List, [], ◌∷◌, length, take, get_or-take, refl, ap, sym, ◌∙◌, subst, arith, Option, Some, None}
use Rattle.std.specs.Prelude.{slice_index}
use Rattle.std.specs.Option.{ForSome, option_map}
use Rattle.std.proofs.lemmas.Bool.{cases_eq, cases_lt}
use Rattle.std.proofs.lemmas.Bool.Decides.{nat_tests}
use Rattle.jb_disk.specs.declared.file.FileId.{FileId}
use Rattle.jb_disk.specs.declared.file.FileId.TheVariants.{Jnl}
use Rattle.jb_disk.specs.declared.version.Version.TheVariants.{One, Two}
use Rattle.jb_disk.specs.Files.{Files, with_file, InFile}
use Rattle.jb_disk.specs.FileLaws.{same_file, same_files, with_file-here, with_file-other}
use Rattle.jb_disk.specs.Gate.{IsGateOpen, version_by, version_of, version_number}
use Rattle.jb_disk.specs.Steps.{Torn, Cut}
use Rattle.jb_disk.specs.Device.{Device, Turns, MayChange, TellsAnImage, and_then}
use Rattle.jb_disk.specs.Images.{Images, Unsynced, just_synced, with_image}
use Rattle.jb_disk.specs.ImageLaws.{with_image-here, with_image-other}
use Rattle.jb_disk.specs.Runs.{LeavesNow, Shows, Keeps, IsAllSynced}
use Rattle.jb_disk.proofs.RunLemmas.{runs-refl, runs-then, runs-weaken}
use Rattle.jb_redo.proofs.ApplyLemmas.{turns_from}
use Rattle.jb_journal.specs.Commit.{IsPlain}
use Rattle.jb_journal.specs.Prepare.{AddsNoneUnsynced, AgreeBut, FromNewest, IsBeingCut, IsPrepared, IsPreparing, IsShort, WantsHead, plain_head}
use Rattle.jb_journal.proofs.SyncLemmas.{shows_map}
use Rattle.jb_journal.proofs.Told.{told_back}
use Rattle.jb_journal.proofs.WriteAndClose.{shows_silent}
use Rattle.jb_disk.proofs.FileLemmas.{leaves_both, leaves_map, only_told, take_same}

-- the versions are two
one-two : One ≡ Two → ⊥
one-two is = cc

-- a journal wants its head or not
pub wants_or_not : (files : Files) → WantsHead files ⊎ ((version_of files ≡ Two) × (16 < length (files Jnl)))
wants_or_not files = elim (cases_lt 16 (length (files Jnl))) [
  | inl longer ↦ elim (cases_eq (slice_index (files Jnl) 1) 2) [
    | inl two ↦ inr (ap version_by two, longer)
    | inr other ↦ inl (inl (not_second (slice_index (files Jnl) 1) other))
  ]
  | inr short ↦ inl (inr (omega arith))
]
  where
    not_second : (second : ℕ) → second ≢ 2 → version_by second ≡ One
    not_second second other = grind (arith, nat_tests)

-- and not both
not_both : (files : Files) → version_of files ≡ Two → 16 < length (files Jnl) → WantsHead files → ⊥
not_both files two long (inl one) = one-two (sym one ∙ two)
not_both files two long (inr short) = omega arith

-- the head that it is given is plain
pub plain_made : (files : Files) → files Jnl ≡ plain_head → IsPlain files
plain_made files is = record {
  long = omega (arith, ap length is);
  two = ap (λ (l : List ℕ). version_by (slice_index l 1)) is;
  shut = subst (λ (l : List ℕ). slice_index l 0 ≢ version_number (version_by (slice_index l 1))) (sym is) (λ zero. omega (arith, zero));
}

-- bytes of the same head
same_head : (before after : List ℕ) → take 16 after ≡ take 16 before → (i : ℕ) → i < 16 → slice_index after i ≡ slice_index before i
same_head before after same i low = sym (get_or-take 16 after i 0 low) ∙ ap (λ (l : List ℕ). slice_index l i) same ∙ get_or-take 16 before i 0 low

-- meanwhile a gate that was closed stays so
pub preparing_shut : (start files : Files) → (IsGateOpen start → ⊥) → IsPreparing start files → IsGateOpen files → ⊥
preparing_shut start files closed preparing is_open = elim preparing.journal [
  | inl same ↦ closed (record {
    longer = subst (λ (l : List ℕ). 16 < length l) same is_open.longer;
    gate = subst (λ (l : List ℕ). slice_index l 0 ≡ version_number (version_by (slice_index l 1))) same is_open.gate;
  })
  | inr wanted ↦ elim wanted.1 [
    | inl short ↦ (let longer = is_open.longer in omega arith)
    | inr cut ↦ closed (record {
      longer = cut.longer;
      gate = sym (same_head (start Jnl) (files Jnl) cut.head 0 (omega arith)) ∙ is_open.gate ∙ ap (λ b. version_number (version_by b)) (same_head (start Jnl) (files Jnl) cut.head 1 (omega arith));
    })
  ]
]

-- the journal wants its head where it did at the start
wanted_at_start : (start files : Files) → IsPreparing start files → WantsHead files → WantsHead start
wanted_at_start start files preparing wants = elim preparing.journal [
  | inl same ↦ subst (λ (l : List ℕ). (version_by (slice_index l 1) ≡ One) ⊎ (length l ≤ 16)) same wants
  | inr wanted ↦ wanted.0
]

-- and where it did, it does so still
wants_still : (start files : Files) → IsPreparing start files → WantsHead start → WantsHead files
wants_still start files preparing wants = elim preparing.journal [
  | inl same ↦ subst (λ (l : List ℕ). (version_by (slice_index l 1) ≡ One) ⊎ (length l ≤ 16)) (sym same) wants
  | inr wanted ↦ elim wanted.1 [
    | inl short ↦ inr short
    | inr cut ↦ elim wants [
      | inl one ↦ inl (ap version_by (same_head (start Jnl) (files Jnl) cut.head 1 (omega arith)) ∙ one)
      | inr short ↦ absurd (let longer = cut.longer in omega arith)
    ]
  ]
]

-- while its length is set
pub preparing_cut : (start before after : Files) → WantsHead start → IsPreparing start before → InFile Jnl (Cut 16) before after → IsPreparing start after
preparing_cut start before after wants was step = record {
  same = λ file ne. step.others file ne ∙ was.same file ne;
  journal = inr (
    wants,
    elim (cases_lt 16 (length (before Jnl))) [
      | inl longer ↦ inr (cut_after longer (cut_before longer))
      | inr short ↦ inl (let most = step.here.no_longer in omega arith)
    ],
  );
}
  where
    cut_before : 16 < length (before Jnl) → IsBeingCut (start Jnl) (before Jnl)
    cut_before longer = elim was.journal [
      | inl same ↦ subst (IsBeingCut (start Jnl)) (sym same) (record {
        longer = subst (λ (l : List ℕ). 16 < length l) same longer;
        no_longer = omega arith;
        head = refl;
      })
      | inr wanted ↦ elim wanted.1 [
        | inl short ↦ absurd (omega arith)
        | inr cut ↦ cut
      ]
    ]

    cut_after : 16 < length (before Jnl) → IsBeingCut (start Jnl) (before Jnl) → IsBeingCut (start Jnl) (after Jnl)
    cut_after longer cut =
        let least = step.here.no_shorter in
        let most = step.here.no_longer in
        let before_most = cut.no_longer in
        record {
          longer = cut.longer;
          no_longer = omega arith;
          head = take_same 16 (before Jnl) (after Jnl) (omega arith) (omega arith) (λ i low. step.here.below i (omega arith) low) ∙ cut.head;
        }

-- while its bytes are written
pub short_torn : (start before after : Files) (at len : ℕ) → IsShort start before → InFile Jnl (Torn at len) before after → IsShort start after
short_torn start before after at len was step =
    let same = step.here.size in
    let short = was.short in
    record { same = λ file ne. step.others file ne ∙ was.same file ne; short = omega arith }

-- which is a part of the preparing
pub short_preparing : (start files : Files) → WantsHead start → IsShort start files → IsPreparing start files
short_preparing start files wants short = record { same = short.same; journal = inr (wants, inl short.short) }

-- a journal of sixteen bytes, synced
pub shows_short : (start : Files) (device : Device) → Shows (IsPreparing start) device → ForSome device.contents (λ files. length (files Jnl) ≡ 16)
    → ForSome device.contents (λ files. LeavesNow (λ left. left Jnl ≡ files Jnl) device.moments) → TellsAnImage device → Shows (IsShort start) device
shows_short start device shows sixteen durable tells = by_contents device.contents refl
  where
    by_contents : (contents : Option Files) → device.contents ≡ contents → Shows (IsShort start) device
    by_contents None none = shows_silent (IsShort start) device tells none
    by_contents (Some now) there = record {
      read = λ files is. record { same = (shows.read files is).same; short = (let size = sixteen files is in omega arith) };
      left = leaves_both (IsPreparing start) (λ left. left Jnl ≡ now Jnl) (IsShort start) device.moments
          (λ left preparing same. record { same = preparing.same; short = (let size = sixteen now there in omega (arith, ap length same)) }) shows.left (durable now there);
    }

-- a run that goes on from a stronger property
pub keeps_by : (P Q : Files → Type 0) (a b c : Device) → ((files : Files) → Q files → P files) → Keeps P a b → (Shows P a → Shows Q b) → Keeps Q b c → Keeps P a c
keeps_by P Q a b c weaker first between second = record {
  shows = λ all. shows_map Q P c weaker (second.shows (between all));
  run = λ all. runs-then P a.moments b.moments c.moments (first.run all) (runs-weaken Q P weaker b.moments c.moments (second.run (between all)));
}

-- nothing is done yet
pub preparing_start : (start : Files) → IsPreparing start start
preparing_start start = record { same = λ file ne. refl; journal = inl refl }

-- so it is at the start
pub shows_preparing : (start : Files) (device : Device) → device.contents ≡ Some start → IsAllSynced device → Shows (IsPreparing start) device
shows_preparing start device there synced = record {
  read = only_told device.contents start (IsPreparing start) there (preparing_start start);
  left = leaves_map (λ left. left ≡ start) (IsPreparing start) device.moments (λ left same. subst (IsPreparing start) (sym same) (preparing_start start)) (synced start there);
}

-- what is told after the writing
pub told_prepared : (o after : Option Files) → ForSome o WantsHead → after ≡ option_map (with_file Jnl plain_head) o → Turns IsPrepared o after
told_prepared None None wants told = tt
told_prepared None (Some now) wants told = absurd (cc)
told_prepared (Some was) None wants told = absurd (cc)
told_prepared (Some was) (Some now) wants told =
    let same : with_file Jnl plain_head was ≡ now = cc in
    subst (IsPrepared was) same (record {
      same = λ file ne. with_file-other Jnl file plain_head was ne;
      kept = λ two long. absurd (not_both was two long (wants was refl));
      made = λ low. with_file-here Jnl plain_head was;
    })

-- what is told where nothing is written
pub told_kept : (o after : Option Files) → ForSome o (λ files. WantsHead files → ⊥) → after ≡ o → Turns IsPrepared o after
told_kept None None none told = tt
told_kept None (Some now) none told = absurd (cc)
told_kept (Some was) None none told = absurd (cc)
told_kept (Some was) (Some now) none told =
    let same : was ≡ now = cc in
    subst (IsPrepared was) same (record { same = λ file ne. refl; kept = λ two longer. refl; made = λ wants. absurd (none was refl wants) })

-- all is synced then
pub synced_again : (start : Files) (old new : Device) → Keeps (IsPreparing start) old new → Shows (IsPreparing start) old → new.contents ≡ option_map (with_file Jnl plain_head) old.contents
    → ForSome old.contents (λ files. LeavesNow (λ left. left Jnl ≡ plain_head) new.moments) → IsAllSynced new
synced_again start old new keeps was told durable = λ final there.
    let back = told_back old.contents new.contents (with_file Jnl plain_head) final told there in
    let shows = keeps.shows was in
    let head : final Jnl ≡ plain_head = ap (λ (x : Files). x Jnl) back.2 ∙ with_file-here Jnl plain_head back.0 in
    leaves_both (IsPreparing start) (λ left. left Jnl ≡ plain_head) (λ left. left ≡ final) new.moments
    (λ left is jnl. same_files left final (λ file. elim (same_file file Jnl) [
      | inl same ↦ subst (λ (f : FileId). left f ≡ final f) (sym same) (jnl ∙ sym head)
      | inr other ↦ is.same file other ∙ sym ((shows.read final there).same file other)
    ])) shows.left (durable back.0 back.1)

-- a journal that wants no head stays as it is
unwanted : (start files : Files) → (WantsHead start → ⊥) → IsPreparing start files → files ≡ start
unwanted start files none preparing = same_files files start (λ file. elim (same_file file Jnl) [
  | inl same ↦ subst (λ (f : FileId). files f ≡ start f) (sym same) (elim preparing.journal [ inl is ↦ is | inr wanted ↦ absurd (none wanted.0) ])
  | inr other ↦ preparing.same file other
])

-- so all is synced
pub synced_unwanted : (start : Files) (device : Device) → ForSome device.contents (λ files. WantsHead files → ⊥) → Shows (IsPreparing start) device → IsAllSynced device
synced_unwanted start device none shows = λ files there.
    let no : WantsHead start → ⊥ = λ wants. none files there (wants_still start files (shows.read files there) wants) in
    let is : files ≡ start = unwanted start files no (shows.read files there) in
    leaves_map (IsPreparing start) (λ left. left ≡ files) device.moments (λ left preparing. unwanted start left no preparing ∙ sym is) shows.left

-- where all was synced at the start, all is synced
pub synced_after : (old new : Device) → Turns IsPrepared old.contents new.contents → ((start : Files) → Shows (IsPreparing start) old → IsAllSynced new) → IsAllSynced old → IsAllSynced new
synced_after old new made durable synced = λ final there.
    let from = turns_from IsPrepared old.contents new.contents final made there in
    durable from.0 (shows_preparing from.0 old from.1 synced) final there

-- what is read wants its head where the files at the start did
pub keeps_wanting : (start : Files) (old new : Device) → TellsAnImage old → TellsAnImage new → ForSome old.contents WantsHead → (old.contents ≡ None → new.contents ≡ None)
    → (WantsHead start → Keeps (IsPreparing start) old new) → Keeps (IsPreparing start) old new
keeps_wanting start old new tells_old tells wants silent keeps = by_contents old.contents refl
  where
    by_contents : (contents : Option Files) → old.contents ≡ contents → Keeps (IsPreparing start) old new
    by_contents None none = record {
      shows = λ all. shows_silent (IsPreparing start) new tells (silent none);
      run = λ all. runs-refl (IsPreparing start) old.moments new.moments (tells.both (silent none) ∙ sym (tells_old.both none));
    }
    by_contents (Some files) there = record { shows = λ all. (keeps (wanted all)).shows all; run = λ all. (keeps (wanted all)).run all }
      where
        wanted : Shows (IsPreparing start) old → WantsHead start
        wanted all = wanted_at_start start files (all.read files there) (wants files there)

-- prepared again, it is as if at once
prepared_again : (start files after : Files) → IsPreparing start files → IsPrepared files after → IsPrepared start after
prepared_again start files after preparing prepared = record {
  same = λ file ne. prepared.same file ne ∙ preparing.same file ne;
  kept = λ two long. elim preparing.journal [
    | inl same ↦ prepared.kept (ap (λ (l : List ℕ). version_by (slice_index l 1)) same ∙ two) (subst (λ (l : List ℕ). 16 < length l) (sym same) long) ∙ same
    | inr wanted ↦ absurd (not_both start two long wanted.0)
  ];
  made = λ wants. prepared.made (wants_still start files preparing wants);
}

-- so it is told
pub told_again : (start : Files) (old new : Device) → Turns IsPrepared old.contents new.contents → Shows (IsPreparing start) old → ForSome new.contents (IsPrepared start)
told_again start old new made shows = λ after there.
    let from = turns_from IsPrepared old.contents new.contents after made there in
    prepared_again start from.0 after (shows.read from.0 from.1) from.2

-- nothing has come
pub newest_same : (P : Images → Images → Type 0) (old new : List Images) → ((images : Images) → P images images) → new ≡ old → FromNewest P old new
newest_same P old new is same = subst (FromNewest P old) (sym same) (by_moments old)
  where
    by_moments : (moments : List Images) → FromNewest P moments moments
    by_moments [] = tt
    by_moments (now ∷ earlier) = is now

-- a call for one file
pub newest_change : (file : FileId) (change : Unsynced → Unsynced) (old new : List Images) → MayChange (with_image file change) old new → FromNewest (AgreeBut file) old new
newest_change file change old new (inl same) = newest_same (AgreeBut file) old new (λ images other ne. refl) same
newest_change file change old new (inr more) = subst (FromNewest (AgreeBut file) old) (sym more) (by_moments old)
  where
    by_moments : (moments : List Images) → FromNewest (AgreeBut file) moments (and_then (with_image file change) moments)
    by_moments [] = tt
    by_moments (now ∷ earlier) = λ other ne. with_image-other file other change now ne

-- one call after another
pub newest_then : (P Q R : Images → Images → Type 0) (a b c : List Images) → ((x y z : Images) → P x y → Q y z → R x z) → FromNewest P a b → FromNewest Q b c → FromNewest R a c
newest_then P Q R [] [] [] both p q = tt
newest_then P Q R [] [] (z ∷ zs) both p q = absurd q
newest_then P Q R [] (y ∷ ys) c both p q = absurd p
newest_then P Q R (x ∷ xs) [] c both p q = absurd p
newest_then P Q R (x ∷ xs) (y ∷ ys) [] both p q = absurd q
newest_then P Q R (x ∷ xs) (y ∷ ys) (z ∷ zs) both p q = both x y z p q

-- calls for one file, and its sync
pub newest_synced : (files : Files) (a c d : List Images) → FromNewest (AgreeBut Jnl) a c → d ≡ and_then (with_image Jnl (λ _. just_synced (files Jnl))) c → FromNewest (AddsNoneUnsynced files) a d
newest_synced files a c d first synced = subst (FromNewest (AddsNoneUnsynced files) a) (sym synced) (by_moments a c first)
  where
    by_moments : (from moments : List Images) → FromNewest (AgreeBut Jnl) from moments → FromNewest (AddsNoneUnsynced files) from (and_then (with_image Jnl (λ _. just_synced (files Jnl))) moments)
    by_moments [] [] same = tt
    by_moments [] (now ∷ since) same = absurd same
    by_moments (was ∷ earlier) [] same = absurd same
    by_moments (was ∷ earlier) (now ∷ since) same = λ file. elim (same_file file Jnl) [
      | inl jnl ↦ inr (subst (λ (f : FileId). with_image Jnl (λ _. just_synced (files Jnl)) now f ≡ just_synced (files f)) (sym jnl) (with_image-here Jnl (λ _. just_synced (files Jnl)) now))
      | inr other ↦ inl (with_image-other Jnl file (λ _. just_synced (files Jnl)) now other ∙ same file other)
    ]
