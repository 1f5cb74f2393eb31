-- Calls of a disk that touch .NDT alone, one after another.
use Rattle.std.proofs.Common.{◌≡◌, inl, inr, ℕ, ◌+◌, List, [], ◌∷◌, ◌++◌, length, refl, sym, ◌∙◌, ap, subst, arith, Result, Ok, Err, OnOk, Option, Some, None}
use Rattle.std.specs.Prelude.{IsErr, is_some}
use Rattle.std.specs.Option.{ForSome, option_map}
use Rattle.std.proofs.lemmas.List.{take_all}
use Rattle.jb_disk.specs.Device.{Device, FailsBy, IsPast, OnlyReads, Resizes, Syncs, Tears, TellsAnImage, Turns}
use Rattle.jb_disk.specs.FileLaws.{same_file, same_files, with_file-here, with_file-other}
use Rattle.jb_disk.specs.Files.{Files, InFile, IsResized, overwritten, written}
use Rattle.jb_disk.specs.Runs.{IsAllSynced, Shows}
use Rattle.jb_disk.specs.declared.file.FileId.{FileId}
use Rattle.jb_disk.specs.declared.file.FileId.TheVariants.{Jdt, Ndt}
use Rattle.jb_disk.proofs.RunLemmas.{durable, keeps-reads, keeps-refl, keeps-resize, keeps-sync, keeps-then, keeps-write}
use Rattle.jb_disk.proofs.FileLemmas.{leaves_both, leaves_map, only_told, take_same, written_end}
use Rattle.jb_image.specs.Places.{bytes_at}
use Rattle.jb_pack.specs.Touching.{AgreeButShadow, Appends, Empties, TouchesShadow}
use Rattle.jb_pack.specs.declared.run.Run.{Run}

-- a claim on success, from one
pub on_ok : {T E : Type 0} (result : Result T E) (P Q : Type 0) → (P → Q) → OnOk result P → OnOk result Q
on_ok (Ok value) P Q next p = next p
on_ok (Err error) P Q next p = tt

-- the same files agree
pub turns-same : (old new : Option Files) → new ≡ old → Turns AgreeButShadow old new
turns-same None None same = tt
turns-same None (Some now) same = absurd (cc)
turns-same (Some was) None same = absurd (cc)
turns-same (Some was) (Some now) same =
    let is : now ≡ was = cc in
    λ file other. ap (λ (f : Files). f file) is

-- and so do files that agree with others, one after another
pub turns-then : (P Q R : Files → Files → Type 0) (a b c : Option Files) → ((x y z : Files) → P x y → Q y z → R x z) → Turns P a b → Turns Q b c → Turns R a c
turns-then P Q R None None None both one two = tt
turns-then P Q R None None (Some z) both one two = absurd two
turns-then P Q R None (Some y) c both one two = absurd one
turns-then P Q R (Some x) None c both one two = absurd one
turns-then P Q R (Some x) (Some y) None both one two = absurd two
turns-then P Q R (Some x) (Some y) (Some z) both one two = both x y z one two

-- a weaker claim
pub turns-weaker : (P Q : Files → Files → Type 0) (a b : Option Files) → ((x y : Files) → P x y → Q x y) → Turns P a b → Turns Q a b
turns-weaker P Q None None weaker one = tt
turns-weaker P Q None (Some y) weaker one = absurd one
turns-weaker P Q (Some x) None weaker one = absurd one
turns-weaker P Q (Some x) (Some y) weaker one = weaker x y one

-- nothing was done
pub touches-none : (device : Device) → TouchesShadow device device
touches-none device = record { others = turns-same device.contents device.contents refl; keeps = λ start. keeps-refl (AgreeButShadow start) device }

-- one call after another
pub touches-then : (a b c : Device) → TouchesShadow a b → TouchesShadow b c → TouchesShadow a c
touches-then a b c one two = record {
  others = turns-then AgreeButShadow AgreeButShadow AgreeButShadow a.contents b.contents c.contents (λ x y z p q file other. q file other ∙ p file other) one.others two.others;
  keeps = λ start. keeps-then (AgreeButShadow start) a b c (one.keeps start) (two.keeps start);
}

-- a call that only reads
pub touches-read : (old new : Device) → OnlyReads old new → TouchesShadow old new
touches-read old new reads = record {
  others = turns-same old.contents new.contents reads.contents;
  keeps = λ start. keeps-reads (AgreeButShadow start) old new reads;
}

-- a change of its length
pub touches-resize : {T E : Type 0} (len : ℕ) (old new : Device) (result : Result T E) → TellsAnImage old → TellsAnImage new → Resizes Ndt len old new result → TouchesShadow old new
touches-resize len old new result tells_old tells_new resizes = record {
  others = resizes.tried.others;
  keeps = λ start. keeps-resize (AgreeButShadow start) Ndt len old new result tells_old tells_new resizes (λ before after was step file other. step.others file other ∙ was file other);
}

-- a write into it
pub touches-write : {T E : Type 0} (at : ℕ) (bytes : List ℕ) (old new : Device) (result : Result T E) → TellsAnImage new → Tears Ndt at (length bytes) old new result
    → OnOk result (new.contents ≡ option_map (written Ndt at bytes) old.contents) → FailsBy (IsPast old.contents Ndt (at + length bytes)) old new result → TouchesShadow old new
touches-write at bytes old new result tells tears done cause = record {
  others = tears.tried.others;
  keeps = λ start. keeps-write (AgreeButShadow start) Ndt at bytes old new result tells tears done cause (λ before after was step file other. step.others file other ∙ was file other);
}

-- a sync of it
pub touches-sync : {T E : Type 0} (old new : Device) (result : Result T E) → TellsAnImage old → TellsAnImage new → Syncs Ndt old new result → TouchesShadow old new
touches-sync old new result tells_old tells_new syncs = record {
  others = syncs.tried.others;
  keeps = λ start. keeps-sync (AgreeButShadow start) Ndt old new result tells_old tells_new syncs;
}

-- a disk goes on telling
pub turns-alike : (P : Files → Files → Type 0) (old new : Option Files) → Turns P old new → is_some new ≡ is_some old
turns-alike P None None turns = refl
turns-alike P None (Some now) turns = absurd turns
turns-alike P (Some was) None turns = absurd turns
turns-alike P (Some was) (Some now) turns = refl

-- calls that were done, and one after them
pub fails-then : {T E : Type 0} (a b c : Device) (result : Result T E) → b.faults ≡ a.faults → TouchesShadow a b → FailsBy ⊥ b c result → FailsBy ⊥ a c result
fails-then a b c (Ok value) same touches cause =
    let after = cause.later in
    record {
      kept = cause.kept ∙ same;
      later = omega (arith, same, after);
      failed = tt;
      refused = λ none. absurd none;
      alike = cause.alike ∙ turns-alike AgreeButShadow a.contents b.contents touches.others;
    }
fails-then a b c (Err error) same touches cause =
    let after = cause.later in
    record {
      kept = tt;
      later = omega (arith, same, after);
      failed = elim cause.failed [ inl rose ↦ inl (omega (arith, rose, same)) | inr none ↦ absurd none ];
      refused = λ none. absurd none;
      alike = cause.alike ∙ turns-alike AgreeButShadow a.contents b.contents touches.others;
    }

-- a refusal, handed on
pub fails-as : {T U E F : Type 0} (old new : Device) (first : Result T E) (result : Result U F) → IsErr first → IsErr result → FailsBy ⊥ old new first → FailsBy ⊥ old new result
fails-as old new (Ok value) result fails err cause = absurd (cc)
fails-as old new (Err error) (Ok value) fails err cause = absurd (cc)
fails-as old new (Err error) (Err other) fails err cause =
    record { kept = tt; later = cause.later; failed = cause.failed; refused = λ none. absurd none; alike = cause.alike }

-- where all is synced, the files are shown as they are
shows_now : (start : Files) (device : Device) → device.contents ≡ Some start → IsAllSynced device → Shows (AgreeButShadow start) device
shows_now start device there synced = record {
  read = only_told device.contents start (AgreeButShadow start) there (λ file other. refl);
  left = leaves_map (λ left. left ≡ start) (AgreeButShadow start) device.moments (λ left same file other. ap (λ (f : Files). f file) same) (synced start there);
}

-- what was told before
pub told_before : (P : Files → Files → Type 0) (old new : Option Files) (now : Files) → Turns P old new → new ≡ Some now → (was : Files) × (old ≡ Some was) × P was now
told_before P None None now turns is = absurd (cc)
told_before P None (Some other) now turns is = absurd turns
told_before P (Some was) None now turns is = absurd turns
told_before P (Some was) (Some other) now turns is =
    let same : other ≡ now = cc in
    (was, refl, subst (P was) same turns)

-- once .NDT is synced behind calls that touched it alone, all is synced again
pub synced-again : {T E : Type 0} (old mid new : Device) (result : Result T E) → TouchesShadow old mid → TouchesShadow mid new → Syncs Ndt mid new result
    → OnOk result (IsAllSynced old → IsAllSynced new)
synced-again old mid new (Err error) one two syncs = tt
synced-again old mid new (Ok value) one two syncs = λ synced now there.
    let told : mid.contents ≡ Some now = sym syncs.kept ∙ there in
    let back = told_before AgreeButShadow old.contents mid.contents now one.others told in
    let start = back.0 in
    let shows = (two.keeps start).shows ((one.keeps start).shows (shows_now start old back.1 synced)) in
    leaves_both (AgreeButShadow start) (λ left. left Ndt ≡ now Ndt) (λ left. left ≡ now) new.moments
    (λ left agree shadow. same_files left now (λ file. elim (same_file file Ndt) [
      | inl same ↦ subst (λ (f : FileId). left f ≡ now f) (sym same) shadow
      | inr other ↦ agree file other ∙ sym (back.2 file other)
    ]))
    shows.left
    (durable Ndt now mid new told syncs.done)

-- the same, where the sync was done
pub synced-ok : {T E : Type 0} (old mid new : Device) (result : Result T E) (value : T) → result ≡ Ok value → TouchesShadow old mid → TouchesShadow mid new → Syncs Ndt mid new result
    → IsAllSynced old → IsAllSynced new
synced-ok old mid new (Ok done) value was one two syncs = synced-again old mid new (Ok done) one two syncs
synced-ok old mid new (Err error) value was one two syncs = absurd (cc)

-- a file that grew, with its end written
grown_end : (len : ℕ) (bytes old new : List ℕ) → len ≡ length old + length bytes → IsResized len old new → overwritten (length old) bytes new ≡ old ++ bytes
grown_end len bytes old new is resized =
    let size = resized.size in
    written_end (length old) bytes new (size ∙ is)
    ∙ ap (λ (l : List ℕ). l ++ bytes) (take_same (length old) old new (omega arith) (omega arith) (λ i low. resized.same i low (omega arith)) ∙ take_all (length old) old (omega arith))

-- a part of .JDT is read, .NDT grows by as much, and it is written there
pub appended : (run : Run) (end len : ℕ) (bytes : List ℕ) (o mid after : Option Files) → ForSome o (λ files. length (files Ndt) ≡ end)
    → ForSome o (λ files. bytes ≡ bytes_at run.at run.len (files Jdt)) → len ≡ end + length bytes → Turns (InFile Ndt (IsResized len)) o mid
    → after ≡ option_map (written Ndt end bytes) mid → Turns (Appends run) o after
appended run end len bytes None None None size read is turns told = tt
appended run end len bytes None None (Some after) size read is turns told = absurd (cc)
appended run end len bytes None (Some now) after size read is turns told = absurd turns
appended run end len bytes (Some was) None after size read is turns told = absurd turns
appended run end len bytes (Some was) (Some now) None size read is turns told = absurd (cc)
appended run end len bytes (Some was) (Some now) (Some after) size read is turns told =
    let same : after ≡ written Ndt end bytes now = cc in
    let end_is : length (was Ndt) ≡ end = size was refl in
    let grown : overwritten end bytes (now Ndt) ≡ was Ndt ++ bytes =
    ap (λ n. overwritten n bytes (now Ndt)) (sym end_is) ∙ grown_end len bytes (was Ndt) (now Ndt) (omega arith) turns.here in
    subst (Appends run was) (sym same) (record {
      shadow = with_file-here Ndt (overwritten end bytes (now Ndt)) now ∙ grown ∙ ap (λ (l : List ℕ). was Ndt ++ l) (read was refl);
      others = λ file other. with_file-other Ndt file (overwritten end bytes (now Ndt)) now other ∙ turns.others file other;
    })

-- .NDT is cut to nothing
pub emptied : (o mid after : Option Files) → Turns (InFile Ndt (IsResized 0)) o mid → after ≡ mid → Turns Empties o after
emptied None None None turns told = tt
emptied None None (Some after) turns told = absurd (cc)
emptied None (Some now) after turns told = absurd turns
emptied (Some was) None after turns told = absurd turns
emptied (Some was) (Some now) None turns told = absurd (cc)
emptied (Some was) (Some now) (Some after) turns told =
    let same : after ≡ now = cc in
    subst (Empties was) (sym same) (record { shadow = nothing (now Ndt) turns.here.size; others = λ file other. turns.others file other })
  where
    nothing : (bytes : List ℕ) → length bytes ≡ 0 → bytes ≡ []
    nothing [] none = refl
    nothing (byte ∷ bytes) none = absurd (omega (arith, none))
