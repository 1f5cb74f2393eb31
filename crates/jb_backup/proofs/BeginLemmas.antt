-- How a target is found empty and begun.
use Rattle.std.proofs.Common.{◌≡◌, inl, inr, ℕ, ◌+◌, ◌≤◌, ◌<◌, List, [], ◌∷◌, ◌++◌, length, sym, refl, ap, ◌∙◌, subst, arith, Option, Some, None, Result, Ok, Err}
use Rattle.std.specs.Option.{ForSome}
use Rattle.std.proofs.lemmas.Bool.{cases_lt}
use Rattle.jb_disk.specs.declared.file.FileId.{FileId}
use Rattle.jb_disk.specs.declared.file.FileId.TheVariants.{Jhr, Jdt, Jdx, Jlr, Jnl, Ndt}
use Rattle.jb_disk.specs.Device.{Device, OnlyReads, Syncs, TellsAnImage, and_then}
use Rattle.jb_disk.specs.FileLaws.{number-injective, same_files}
use Rattle.jb_disk.specs.Files.{Files, file_number}
use Rattle.jb_disk.specs.Images.{Images, IsImage, just_synced, with_image}
use Rattle.jb_disk.specs.Runs.{LeavesNow, LeavesAlways, IsAllSynced, Keeps, Runs, Shows}
use Rattle.jb_disk.proofs.RunLemmas.{durable, keeps-sync, runs-refl, runs-then, runs-weaken}
use Rattle.jb_backup.specs.Answers.{IsFirstFull}
use Rattle.jb_backup.specs.Begin.{LeavesNoMore, BeginsTiny}
use Rattle.jb_backup.specs.Target.{AreEmpty, IsTiny}
use Rattle.jb_backup.proofs.AnswerLemmas.{ok_of}
use Rattle.jb_backup.proofs.TargetLemmas.{some_same}

-- no moment has come
pub no_more_refl : (moments now : List Images) → now ≡ moments → LeavesNoMore moments now
no_more_refl [] now same = same
no_more_refl (first ∷ earlier) now same = runs-refl (IsImage first) (first ∷ earlier) now same

-- one run after another
pub no_more_then : (a b c : List Images) → LeavesNoMore a b → LeavesNoMore b c → LeavesNoMore a c
no_more_then [] b c none next = subst (λ (l : List Images). LeavesNoMore l c) none next
no_more_then (now ∷ earlier) b c run next = by_later run.later run.since run.only
  where
    by_later : (later : List Images) → b ≡ later ++ (now ∷ earlier) → LeavesAlways (IsImage now) later → Runs (IsImage now) (now ∷ earlier) c
    by_later [] since only = subst (λ (l : List Images). LeavesNoMore l c) since next
    by_later (newest ∷ rest) since only =
        let after : Runs (IsImage newest) b c = subst (λ (l : List Images). Runs (IsImage newest) l c) (sym since) (subst (λ (l : List Images). LeavesNoMore l c) since next) in
        runs-then (IsImage now) (now ∷ earlier) b c run (runs-weaken (IsImage newest) (IsImage now) only.0 b c after)

-- a sync leaves no more than before
pub no_more_sync : {T E : Type 0} (f : FileId) (old new : Device) (result : Result T E) → TellsAnImage old → TellsAnImage new → Syncs f old new result → LeavesNoMore old.moments new.moments
no_more_sync {T} {E} f old new result told_old told_new syncs = by_moments old.moments refl
  where
    none_left : (result : Result T E) → Syncs f old new result → old.moments ≡ [] → new.moments ≡ []
    none_left (Err error) syncs none = syncs.failed ∙ none
    none_left (Ok value) syncs none = by_contents old.contents refl
      where
        by_contents : (o : Option Files) → old.contents ≡ o → new.moments ≡ []
        by_contents None is = told_new.both (syncs.kept ∙ is)
        by_contents (Some files) is = syncs.done files is ∙ ap (and_then (with_image f (λ _. just_synced (files f)))) none

    by_moments : (moments : List Images) → old.moments ≡ moments → LeavesNoMore moments new.moments
    by_moments [] is = none_left result syncs is
    by_moments (now ∷ earlier) is =
        let shows : Shows (IsImage now) old = record { read = λ files there. told_old.read files now earlier there is; left = subst (LeavesNow (IsImage now)) (sym is) (λ files image. image) } in
        subst (λ (l : List Images). Runs (IsImage now) l new.moments) is ((keeps-sync (IsImage now) f old new result told_old told_new syncs).run shows)

-- the files below this number are synced
abbrev pub AreSyncedTo : ℕ → Device → Type 0
AreSyncedTo count device = (other : FileId) → file_number other < count → ForSome device.contents (λ files. LeavesNow (λ left. left other ≡ files other) device.moments)

-- the files below this number are empty, where the disk tells
abbrev pub AreEmptyTo : ℕ → Option Files → Type 0
AreEmptyTo count contents = (other : FileId) → file_number other < count → ForSome contents (λ files. files other ≡ [])

-- each number is below six
number_low : (f : FileId) → file_number f < 6
number_low Jhr = omega arith
number_low Jdt = omega arith
number_low Jdx = omega arith
number_low Jlr = omega arith
number_low Jnl = omega arith
number_low Ndt = omega arith

-- all of them are empty
pub all_empty : (count : ℕ) (contents : Option Files) → 6 ≤ count → AreEmptyTo count contents → ForSome contents AreEmpty
all_empty count contents all empty = λ files there f. let low = number_low f in empty f (omega arith) files there

-- one more is
pub empty_more : (count len : ℕ) (f : FileId) (contents : Option Files) → file_number f ≡ count → ForSome contents (λ files. len ≡ length (files f)) → len ≡ 0 → AreEmptyTo count contents → AreEmptyTo (count + 1) contents
empty_more count len f contents is found none was = λ other low files there. elim (cases_lt (file_number other) count) [
  | inl below ↦ was other below files there
  | inr over ↦
      let same : other ≡ f = number-injective other f (omega (arith, is)) in
      let long = found files there in
      subst (λ (g : FileId). files g ≡ []) (sym same) (nothing_in (files f) (omega (arith, long)))
]
  where
    nothing_in : (bytes : List ℕ) → length bytes ≡ 0 → bytes ≡ []
    nothing_in [] none = refl
    nothing_in (first ∷ rest) none = absurd (omega arith)

-- one that is not is the first
pub full_first : (count len : ℕ) (f : FileId) (contents : Option Files) → file_number f ≡ count → ForSome contents (λ files. len ≡ length (files f)) → 0 < len → AreEmptyTo count contents → ForSome contents (IsFirstFull f)
full_first count len f contents is found some was = λ files there.
    let long = found files there in
    record {
      full = λ none. let e = ap length none in omega (arith, e, long);
      below = λ other low. was other (omega (arith, is)) files there;
    }

-- one more is synced
pub synced_more : {T E : Type 0} (count : ℕ) (f : FileId) (old new : Device) (value : T) → TellsAnImage old → TellsAnImage new → file_number f ≡ count → Syncs f old new (ok_of T E value) → AreSyncedTo count old → AreSyncedTo (count + 1) new
synced_more {T} {E} count f old new value told_old told_new is syncs was = λ other low files there.
    let there0 : old.contents ≡ Some files = sym syncs.kept ∙ there in
    elim (cases_lt (file_number other) count) [
      | inl below ↦ ((keeps-sync (λ left. left other ≡ files other) f old new (ok_of T E value) told_old told_new syncs).shows
          (record { read = λ held here. ap (λ (g : Files). g other) (some_same (sym here ∙ there0)); left = was other below files there0 })).left
      | inr over ↦
          let same : other ≡ f = number-injective other f (omega (arith, is)) in
          subst (λ (g : FileId). LeavesNow (λ left. left g ≡ files g) new.moments) (sym same) (durable f files old new there0 syncs.done)
    ]

-- all of them are synced
pub all_synced : (count : ℕ) (device : Device) → 6 ≤ count → AreSyncedTo count device → IsAllSynced device
all_synced count device all synced = λ files there. by_moments files device.moments (λ f. let low = number_low f in synced f (omega arith) files there)
  where
    by_moments : (files : Files) (moments : List Images) → ((f : FileId) → LeavesNow (λ left. left f ≡ files f) moments) → LeavesNow (λ left. left ≡ files) moments
    by_moments files [] each = tt
    by_moments files (now ∷ earlier) each = λ left image. same_files left files (λ f. each f left image)

-- empty files that are synced leave only tiny ones
pub leaves_tiny : (device : Device) (moments : List Images) → device.moments ≡ moments → IsAllSynced device → (files : Files) → device.contents ≡ Some files → AreEmpty files → LeavesNow IsTiny moments
leaves_tiny device [] is synced files there empty = tt
leaves_tiny device (now ∷ earlier) is synced files there empty = λ left image.
    let same : left ≡ files = (subst (LeavesNow (λ left. left ≡ files)) is (synced files there)) left image in
    subst IsTiny (sym same) (tiny_of files empty)
  where
    tiny_of : (files : Files) → AreEmpty files → IsTiny files
    tiny_of files empty = record { journal = empty Jnl; shadow = empty Ndt; short = let none = ap length (empty Jhr) in omega arith }

-- so such a device shows a tiny target
pub shows_tiny : (device : Device) → TellsAnImage device → IsAllSynced device → ForSome device.contents AreEmpty → Shows IsTiny device
shows_tiny device tells synced empty = record { read = λ files there. tiny_of files (empty files there); left = by_contents device.contents refl }
  where
    tiny_of : (files : Files) → AreEmpty files → IsTiny files
    tiny_of files empty = record { journal = empty Jnl; shadow = empty Ndt; short = let none = ap length (empty Jhr) in omega arith }

    by_contents : (o : Option Files) → device.contents ≡ o → LeavesNow IsTiny device.moments
    by_contents None is = subst (LeavesNow IsTiny) (sym (tells.both is)) tt
    by_contents (Some files) is = leaves_tiny device device.moments refl synced files is (empty files is)

-- a target that was synced or not, and then only read
pub begins_not : (old mid new : Device) → LeavesNoMore old.moments mid.moments → new.moments ≡ mid.moments → BeginsTiny old new
begins_not old mid new before same = record { found = mid.moments; before = before; since = inl same; full = λ files there filled. same }

-- one that was found empty and marked
pub begins_tiny : (old found new : Device) → LeavesNoMore old.moments found.moments → ForSome old.contents AreEmpty → Shows IsTiny found → Keeps IsTiny found new → BeginsTiny old new
begins_tiny old found new before empty shows keeps = record {
  found = found.moments;
  before = before;
  since = inr (record { first = shows.left; run = keeps.run shows });
  full = λ files there filled. absurd (filled (empty files there));
}

-- a device that is only read is synced as before
pub synced_reads : (old new : Device) → OnlyReads old new → IsAllSynced old → IsAllSynced new
synced_reads old new reads synced = λ files there. subst (LeavesNow (λ left. left ≡ files)) (sym reads.moments) (synced files (sym reads.contents ∙ there))

-- a target that was synced and found empty is tiny
pub tiny_found : (synced read : Device) → TellsAnImage read → IsAllSynced synced → OnlyReads synced read → ForSome synced.contents AreEmpty → Shows IsTiny read
tiny_found synced read tells all reads empty = shows_tiny read tells (synced_reads synced read reads all) (λ files there. empty files (sym reads.contents ∙ there))

-- and is begun
pub marked : (old synced read new : Device) → TellsAnImage read → LeavesNoMore old.moments synced.moments → synced.contents ≡ old.contents → IsAllSynced synced → OnlyReads synced read → ForSome synced.contents AreEmpty → Keeps IsTiny read new → BeginsTiny old new
marked old synced read new tells before same all reads empty keeps =
    begins_tiny old read new (subst (LeavesNoMore old.moments) (sym reads.moments) before) (λ files there. empty files (same ∙ there)) (tiny_found synced read tells all reads empty) keeps
