-- Which calls on the target keep what.
use Rattle.std.proofs.Common.{◌≡◌, ◌≢◌, ◌⊎◌, inl, inr, ℕ, zero, suc, ◌≤◌, ◌<◌, List, [], ◌∷◌, length, sym, refl, ap, ◌∙◌, subst, arith, ⊎_elim, Option, Some, None, Result, Ok, Err, OnOk}
use Rattle.std.specs.Prelude.{slice_index}
use Rattle.std.proofs.lemmas.List.{same_lists, get_or_default}
use Rattle.std.proofs.lemmas.Bool.{cases_eq}
use Rattle.std.specs.Option.{ForSome, option_map}
use Rattle.jb_disk.specs.declared.file.FileId.{FileId}
use Rattle.jb_disk.specs.declared.file.FileId.TheVariants.{Jhr, Jnl, Ndt}
use Rattle.jb_disk.specs.Device.{Device, Resizes, Syncs, TellsAnImage, Turns, and_then}
use Rattle.jb_disk.specs.FileLaws.{same_file, with_file-here, length-overwritten}
use Rattle.jb_disk.specs.Files.{Files, InFile, IsResized, file_number, overwritten, written}
use Rattle.jb_disk.specs.Images.{just_synced, with_image}
use Rattle.jb_disk.specs.Runs.{LeavesNow, LeavesOnly, Keeps, Shows}
use Rattle.jb_disk.specs.Steps.{Torn, Cut}
use Rattle.jb_disk.proofs.FileLemmas.{leaves_both, leaves_map}
use Rattle.jb_disk.proofs.RunLemmas.{durable, keeps-resize, keeps-sync, keeps-then, runs-then, runs-weaken}
use Rattle.jb_backup.specs.Copying.{IsCopyable, LeavesOthers}
use Rattle.jb_backup.specs.Target.{IsTiny, IsUnsigned, IsSameFrom, IsAllButSigned, IsBackupOf, IsSame, Reaches}

-- no file of the base is the journal or the shadow
pub not_journal : (f : FileId) → file_number f < 4 → Jnl ≢ f
not_journal f low is = let e = ap file_number is in omega (arith, e)

pub not_shadow : (f : FileId) → file_number f < 4 → Ndt ≢ f
not_shadow f low is = let e = ap file_number is in omega (arith, e)

headers_low : file_number Jhr < 4
headers_low = omega arith

-- a file that is another is as it was, and else it changed as that one
other_or : (f g : FileId) (change : List ℕ → List ℕ → Type 0) (before after : Files) → InFile f change before after → ((g ≡ f) × change (before g) (after g)) ⊎ (after g ≡ before g)
other_or f g change before after step = ⊎_elim (λ (is : g ≡ f). inl (is, subst (λ (h : FileId). change (before h) (after h)) (sym is) step.here)) (λ (ne : g ≢ f). inr (step.others g ne)) (same_file g f)

-- the headers keep one byte at least, and a first byte that is not the signature's
unsigned_by : (before after : Files) → IsUnsigned before → after Jnl ≡ before Jnl → after Ndt ≡ before Ndt → 1 ≤ length (after Jhr) → slice_index (after Jhr) 0 ≡ slice_index (before Jhr) 0 → IsUnsigned after
unsigned_by before after was jnl ndt some first = record { journal = jnl ∙ was.journal; shadow = ndt ∙ was.shadow; some = some; first = λ e. was.first (sym first ∙ e) }

-- any bytes in a range of a file of the base, behind the first of the headers, keep the target unsigned
pub unsigned_torn : (f : FileId) (at len : ℕ) → IsCopyable f at → (before after : Files) → IsUnsigned before → InFile f (Torn at len) before after → IsUnsigned after
unsigned_torn f at len copyable before after was step =
    let some = was.some in
    ⊎_elim (λ (hit : (Jhr ≡ f) × Torn at len (before Jhr) (after Jhr)).
    let size = hit.1.size in
    let behind = copyable.behind (sym hit.0) in
    unsigned_by before after was (step.others Jnl (not_journal f copyable.base)) (step.others Ndt (not_shadow f copyable.base)) (omega arith) (hit.1.below 0 (omega arith)))
    (λ (same : after Jhr ≡ before Jhr).
    unsigned_by before after was (step.others Jnl (not_journal f copyable.base)) (step.others Ndt (not_shadow f copyable.base)) (omega (arith, ap length same)) (ap (λ (l : List ℕ). slice_index l 0) same))
    (other_or f Jhr (Torn at len) before after step)

-- so does another length, of one byte of the headers at least
pub unsigned_cut : (f : FileId) (len : ℕ) → IsCopyable f len → (before after : Files) → IsUnsigned before → InFile f (Cut len) before after → IsUnsigned after
unsigned_cut f len copyable before after was step =
    let some = was.some in
    ⊎_elim (λ (hit : (Jhr ≡ f) × Cut len (before Jhr) (after Jhr)).
    let size = hit.1.no_shorter in
    let behind = copyable.behind (sym hit.0) in
    unsigned_by before after was (step.others Jnl (not_journal f copyable.base)) (step.others Ndt (not_shadow f copyable.base)) (omega arith) (hit.1.below 0 some (omega arith)))
    (λ (same : after Jhr ≡ before Jhr).
    unsigned_by before after was (step.others Jnl (not_journal f copyable.base)) (step.others Ndt (not_shadow f copyable.base)) (omega (arith, ap length same)) (ap (λ (l : List ℕ). slice_index l 0) same))
    (other_or f Jhr (Cut len) before after step)

-- what holds of another file's bytes stays
pub other_stays : (f other : FileId) (change : List ℕ → List ℕ → Type 0) (from : ℕ) (good : List ℕ) → other ≢ f → (before after : Files) → IsSameFrom from good (before other) → InFile f change before after → IsSameFrom from good (after other)
other_stays f other change from good ne before after was step = subst (IsSameFrom from good) (sym (step.others other ne)) was

-- headers of one byte stay too short
pub tiny_cut : (before after : Files) → IsTiny before → InFile Jhr (Cut 1) before after → IsTiny after
tiny_cut before after was step =
    let size = step.here.no_longer in
    let short = was.short in
    record { journal = step.others Jnl (not_journal Jhr headers_low) ∙ was.journal; shadow = step.others Ndt (not_shadow Jhr headers_low) ∙ was.shadow; short = omega arith }

pub tiny_torn : (before after : Files) → IsTiny before → InFile Jhr (Torn 0 1) before after → IsTiny after
tiny_torn before after was step =
    let size = step.here.size in
    let short = was.short in
    record { journal = step.others Jnl (not_journal Jhr headers_low) ∙ was.journal; shadow = step.others Ndt (not_shadow Jhr headers_low) ∙ was.shadow; short = omega arith }

-- the first byte of the headers may be anything
pub signed_torn : (good before after : Files) → IsAllButSigned good before → InFile Jhr (Torn 0 1) before after → IsAllButSigned good after
signed_torn good before after was step = record {
  others = λ f ne. step.others f ne ∙ was.others f ne;
  headers = record { size = step.here.size ∙ was.headers.size; behind = λ i over. step.here.above i over ∙ was.headers.behind i over };
}

-- bytes that are the same from the first on are the same
pub same_bytes : (good bytes : List ℕ) → IsSameFrom 0 good bytes → bytes ≡ good
same_bytes good bytes is =
    let size = is.size in
    same_lists bytes good size (λ k d low. get_or_default bytes k d 0 low ∙ is.behind k (omega arith) ∙ get_or_default good k 0 d (omega (arith, size)))

-- with the first byte they are the same from there on
with_first : (good bytes : List ℕ) → IsSameFrom 1 good bytes → slice_index bytes 0 ≡ slice_index good 0 → IsSameFrom 0 good bytes
with_first good bytes is first = record { size = is.size; behind = at_place }
  where
    at_place : (i : ℕ) → 0 ≤ i → slice_index bytes i ≡ slice_index good i
    at_place zero low = first
    at_place (suc i) low = is.behind (suc i) (omega arith)

-- with the signature's first byte the target is whole
pub signed_same : (good : Files) → slice_index (good Jhr) 0 ≡ 74 → (files : Files) → IsAllButSigned good files → slice_index (files Jhr) 0 ≡ 74 → IsSame good files
signed_same good starts files is first f = ⊎_elim (λ (same : f ≡ Jhr). subst (λ (g : FileId). files g ≡ good g) (sym same) (same_bytes (good Jhr) (files Jhr) (with_first (good Jhr) (files Jhr) is.headers (first ∙ sym starts))))
    (λ (ne : f ≢ Jhr). is.others f ne) (same_file f Jhr)

-- so it is refused, or whole
pub is_backup : (good : Files) → good Jnl ≡ [] → slice_index (good Jhr) 0 ≡ 74 → (files : Files) → IsAllButSigned good files → IsBackupOf good files
is_backup good shut starts files is = ⊎_elim (λ (e : slice_index (files Jhr) 0 ≡ 74). inr (signed_same good starts files is e))
    (λ (ne : slice_index (files Jhr) 0 ≢ 74). inl record { journal = is.others Jnl (not_journal Jhr headers_low) ∙ shut; headers = inr ne }) (cases_eq (slice_index (files Jhr) 0) 74)

-- an unsigned target is refused
pub unsigned_backup : (good files : Files) → IsUnsigned files → IsBackupOf good files
unsigned_backup good files is = inl record { journal = is.journal; headers = inr is.first }

-- two things that are told are one
pub some_same : {A : Type 0} {a b : A} → Some a ≡ Some b → a ≡ b
some_same e = cc e

-- nothing is told of a device that tells nothing
pub shows_nothing : (P : Files → Type 0) (device : Device) → TellsAnImage device → device.contents ≡ None → Shows P device
shows_nothing P device tells none = record { read = λ files there. absurd (nothing files (sym none ∙ there)); left = subst (LeavesNow P) (sym (tells.both none)) tt }
  where
    nothing : (files : Files) → None ≡ Some files → ⊥
    nothing files e = cc e

-- what shows two properties shows a third
pub shows_both : (P Q R : Files → Type 0) (device : Device) → ((files : Files) → P files → Q files → R files) → Shows P device → Shows Q device → Shows R device
shows_both P Q R device both p q = record { read = λ files there. both files (p.read files there) (q.read files there); left = leaves_both P Q R device.moments both p.left q.left }

-- after a sync that was done a crash leaves of the file what was read
pub durable_at : (f : FileId) (change : Files → Files) (o : Option Files) (old new : Device) → old.contents ≡ option_map change o
    → ForSome old.contents (λ files. new.moments ≡ and_then (with_image f (λ _. just_synced (files f))) old.moments) → ForSome o (λ files. LeavesNow (λ left. left f ≡ change files f) new.moments)
durable_at f change o old new told done = λ files there. durable f (change files) old new (told ∙ ap (option_map change) there) done

-- the files with this first byte of the headers
abbrev pub begun_with : ℕ → Files → Files
begun_with first files = written Jhr 0 (first ∷ []) files

first_written : (n : ℕ) (l : List ℕ) → slice_index (overwritten 0 (n ∷ []) l) 0 ≡ n
unfolding overwritten
first_written n l = refl

first_begun : (n : ℕ) (files : Files) → slice_index (begun_with n files Jhr) 0 ≡ n
first_begun n files = ap (λ (l : List ℕ). slice_index l 0) (with_file-here Jhr (overwritten 0 (n ∷ []) (files Jhr)) files) ∙ first_written n (files Jhr)

-- what is read now, and what a crash leaves, of files whose headers a call wrote and another synced
pub shows_written : (n : ℕ) (P Q : Files → Type 0) → (contents : Option Files) (new : Device) → TellsAnImage new → new.contents ≡ option_map (begun_with n) contents
    → ForSome contents (λ files. LeavesNow (λ left. left Jhr ≡ begun_with n files Jhr) new.moments) → ((before files : Files) → contents ≡ Some before → P files → files Jhr ≡ begun_with n before Jhr → Q files) → Shows P new → Shows Q new
shows_written n P Q None new tells told durable both shows = shows_nothing Q new tells told
shows_written n P Q (Some before) new tells told durable both shows = record {
  read = λ files there. let is : begun_with n before ≡ files = some_same (sym told ∙ there) in both before files refl (shows.read files there) (ap (λ (g : Files). g Jhr) (sym is));
  left = leaves_both P (λ left. left Jhr ≡ begun_with n before Jhr) Q new.moments (λ left p is. both before left refl p is) shows.left (durable before refl);
}

-- one byte that is 0
pub unsigned_of : (before files : Files) → length (before Jhr) ≡ 1 → IsTiny files → files Jhr ≡ begun_with 0 before Jhr → IsUnsigned files
unsigned_of before files one tiny is =
    let same : files Jhr ≡ overwritten 0 (0 ∷ []) (before Jhr) = is ∙ with_file-here Jhr (overwritten 0 (0 ∷ []) (before Jhr)) before in
    let size : length (overwritten 0 (0 ∷ []) (before Jhr)) ≡ length (before Jhr) = length-overwritten 0 (0 ∷ []) (before Jhr) (omega arith) in
    let long = ap length same in record {
      journal = tiny.journal;
      shadow = tiny.shadow;
      some = omega (arith, long, size, one);
      first = zero_not (slice_index (files Jhr) 0) (ap (λ (l : List ℕ). slice_index l 0) is ∙ first_begun 0 before);
    }
  where
    zero_not : (n : ℕ) → n ≡ 0 → n ≢ 74
    zero_not n z e = absurd (omega arith)

-- the last byte makes the target whole
pub whole_of : (good : Files) → slice_index (good Jhr) 0 ≡ 74 → (before files : Files) → IsAllButSigned good files → files Jhr ≡ begun_with 74 before Jhr → IsSame good files
whole_of good starts before files is same = signed_same good starts files is (ap (λ (l : List ℕ). slice_index l 0) same ∙ first_begun 74 before)

-- a file of its new length, where the disk tells
pub resized_one : (f : FileId) (len : ℕ) (old new : Option Files) → Turns (InFile f (IsResized len)) old new → ForSome new (λ files. length (files f) ≡ len)
resized_one f len None None turns = λ files there. absurd (cc there)
resized_one f len (Some before) (Some after) turns = λ files there. let same : after ≡ files = cc there in subst (λ (g : Files). length (g f) ≡ len) same turns.here.size
resized_one f len None (Some after) turns = absurd turns
resized_one f len (Some before) None turns = absurd turns

-- what holds of an answer that is Ok
pub on_ok : {T E : Type 0} (result : Result T E) (P Q : Type 0) → (P → Q) → OnOk result P → OnOk result Q
on_ok (Ok value) P Q next p = next p
on_ok (Err error) P Q next p = tt

pub on_ok_both : {T E : Type 0} (result : Result T E) (P Q R : Type 0) → (P → Q → R) → OnOk result P → OnOk result Q → OnOk result R
on_ok_both (Ok value) P Q R next p q = next p q
on_ok_both (Err error) P Q R next p q = tt

-- another length of a file of the base, behind the first byte of the headers
pub cut_unsigned : {T E : Type 0} (f : FileId) (from len : ℕ) (old new : Device) (result : Result T E) → TellsAnImage old → TellsAnImage new → IsCopyable f from → from ≤ len → Resizes f len old new result → Keeps IsUnsigned old new
cut_unsigned f from len old new result tells_old tells_new copyable low changed =
    keeps-resize IsUnsigned f len old new result tells_old tells_new changed
    (λ before after was step. unsigned_cut f len (record { base = copyable.base; behind = λ is. let behind = copyable.behind is in omega arith }) before after was step)

-- and what it does to the others
pub cut_others : {T E : Type 0} (f : FileId) (len : ℕ) (old new : Device) (result : Result T E) → TellsAnImage old → TellsAnImage new → Resizes f len old new result → LeavesOthers f old new
cut_others f len old new result tells_old tells_new changed = λ other ne from good.
    keeps-resize (λ files. IsSameFrom from good (files other)) f len old new result tells_old tells_new changed (λ before after was step. other_stays f other (Cut len) from good ne before after was step)

-- the other files over one run of calls and the next
pub others_then : (f : FileId) (a b c : Device) → LeavesOthers f a b → LeavesOthers f b c → LeavesOthers f a c
others_then f a b c first second = λ other ne from good. keeps-then (λ files. IsSameFrom from good (files other)) a b c (first other ne from good) (second other ne from good)

-- and over a sync
pub sync_others : {T E : Type 0} (f : FileId) (old new : Device) (result : Result T E) → TellsAnImage old → TellsAnImage new → Syncs f old new result → LeavesOthers f old new
sync_others f old new result tells_old tells_new changed = λ other ne from good. keeps-sync (λ files. IsSameFrom from good (files other)) f old new result tells_old tells_new changed

-- an unsigned target is a backup at each moment
pub backup_unsigned : (good : Files) (old new : Device) → Shows IsUnsigned old → Keeps IsUnsigned old new → LeavesOnly old new (IsBackupOf good)
backup_unsigned good old new shows keeps = record {
  first = leaves_map IsUnsigned (IsBackupOf good) old.moments (λ files is. unsigned_backup good files is) shows.left;
  run = runs-weaken IsUnsigned (IsBackupOf good) (λ files is. unsigned_backup good files is) old.moments new.moments (keeps.run shows);
}

-- so is one that is signed at last
pub backup_signed : (good : Files) → good Jnl ≡ [] → slice_index (good Jhr) 0 ≡ 74 → (a b c : Device) → Shows IsUnsigned a → Keeps IsUnsigned a b → Shows (IsAllButSigned good) b → Keeps (IsAllButSigned good) b c → LeavesOnly a c (IsBackupOf good)
backup_signed good shut starts a b c shows keeps all signs =
    let before = backup_unsigned good a b shows keeps in record {
      first = before.first;
      run = runs-then (IsBackupOf good) a.moments b.moments c.moments before.run (runs-weaken (IsAllButSigned good) (IsBackupOf good) (λ files is. is_backup good shut starts files is) b.moments c.moments (signs.run all));
    }

-- the headers of an unsigned target have a byte
pub reaches_unsigned : (device : Device) → Shows IsUnsigned device → Reaches device.contents Jhr 1
reaches_unsigned device shows = λ files there. (shows.read files there).some

-- each file reaches to its beginning
pub reaches_none : (f : FileId) (end : ℕ) (contents : Option Files) → end ≡ 0 → Reaches contents f end
reaches_none f end contents none = λ files there. omega (arith, none)
