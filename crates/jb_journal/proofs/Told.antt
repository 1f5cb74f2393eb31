-- What the disk tells, from call to call.
use Rattle.std.proofs.Common.{◌≡◌, inl, inr, ℕ, ◌+◌, ◌≤◌, List, [], ◌++◌, length, take, refl, sym, ◌∙◌, ap, subst, arith, length-append, Result, Ok, Err, OnOk, Option, Some, None, true, false}
use Rattle.std.specs.Prelude.{IsErr}
use Rattle.std.specs.Option.{option_map, ForSome}
use Rattle.jb_disk.specs.declared.file.FileId.{FileId}
use Rattle.jb_disk.specs.Files.{Files, with_file, overwritten, written, IsResized, InFile}
use Rattle.jb_disk.specs.Device.{Device, IsPast, FailsBy, TellsAlike, Turns, and_then}
use Rattle.jb_disk.specs.Images.{just_synced, with_image}
use Rattle.jb_disk.specs.Runs.{LeavesNow}
use Rattle.jb_disk.proofs.RunLemmas.{durable}
use Rattle.jb_disk.proofs.FileLemmas.{take_same, written_end, overwritten-append, overwritten-nil}
use Rattle.jb_disk.specs.FileLaws.{same_file, with_file-here, with_file-other, same_files, length-overwritten}
use Rattle.jb_journal.specs.Writing.{Reaches}

-- a range within a file is not past its end
pub not_past : (o : Option Files) (f : FileId) (end : ℕ) → Reaches o f end → IsPast o f end → ⊥
not_past None f end reaches past = past
not_past (Some files) f end reaches past = omega (arith, reaches files refl, past)

-- a call within a file fails for a fault alone
pub fails_here : {T E : Type 0} (o : Option Files) (f : FileId) (end : ℕ) (old new : Device) (result : Result T E) → Reaches o f end → FailsBy (IsPast o f end) old new result → FailsBy ⊥ old new result
fails_here o f end old new (Ok value) reaches cause = record { kept = cause.kept; later = cause.later; failed = tt; refused = λ none. absurd none; alike = cause.alike }
fails_here o f end old new (Err error) reaches cause = record {
  kept = tt;
  later = cause.later;
  failed = elim cause.failed [ inl rose ↦ inl rose | inr past ↦ absurd (not_past o f end reaches past) ];
  refused = λ none. absurd none;
  alike = cause.alike;
}

-- a call that was done, and one after it
pub fails_then : {T E : Type 0} (a b c : Device) (result : Result T E) → b.faults ≡ a.faults → TellsAlike a b → FailsBy ⊥ b c result → FailsBy ⊥ a c result
fails_then a b c (Ok value) same alike cause =
    let after = cause.later in
    record { kept = cause.kept ∙ same; later = omega (arith, same, after); failed = tt; refused = λ none. absurd none; alike = cause.alike ∙ alike }
fails_then a b c (Err error) same alike cause =
    let after = cause.later in
    record {
      kept = tt;
      later = omega (arith, same, after);
      failed = elim cause.failed [ inl rose ↦ inl (omega (arith, rose, same)) | inr none ↦ absurd none ];
      refused = λ none. absurd none;
      alike = cause.alike ∙ alike;
    }

-- false is not true
not-true : false ≡ true → ⊥
not-true is = cc

-- the same refusal, handed on
pub fails_as : {T E U F : Type 0} (old new : Device) (first : Result T E) (result : Result U F) → IsErr first → IsErr result → FailsBy ⊥ old new first → FailsBy ⊥ old new result
fails_as old new (Ok value) result fails err cause = absurd (not-true fails)
fails_as old new first (Ok value) fails err cause = absurd (not-true err)
fails_as old new (Err error) (Err other) fails err cause = record { kept = tt; later = cause.later; failed = cause.failed; refused = λ none. absurd none; alike = cause.alike }

-- no call is done that was refused
pub none_done : {T E : Type 0} (result : Result T E) (P : Type 0) → IsErr result → OnOk result P
none_done (Ok value) P err = absurd (not-true err)
none_done (Err error) P err = tt

-- a claim on success, from one
pub on_ok : {T E : Type 0} (result : Result T E) (P Q : Type 0) → (P → Q) → OnOk result P → OnOk result Q
on_ok (Ok value) P Q next p = next p
on_ok (Err error) P Q next p = tt

-- a claim on success that holds anyway
pub on_ok_always : {T E : Type 0} (result : Result T E) (P : Type 0) → P → OnOk result P
on_ok_always (Ok value) P p = p
on_ok_always (Err error) P p = tt

-- a claim on success, from two
pub on_ok_both : {T E : Type 0} (result : Result T E) (P Q R : Type 0) → (P → Q → R) → OnOk result P → OnOk result Q → OnOk result R
on_ok_both (Ok value) P Q R next p q = next p q
on_ok_both (Err error) P Q R next p q = tt

-- the same on what is told
pub option_map-same : {A B : Type 0} (g h : A → B) (o : Option A) → ((a : A) → o ≡ Some a → g a ≡ h a) → option_map g o ≡ option_map h o
option_map-same g h None each = refl
option_map-same g h (Some a) each = ap Some (each a refl)

-- one after another
pub option_map-twice : {A B C : Type 0} (g : A → B) (h : B → C) (o : Option A) → option_map h (option_map g o) ≡ option_map (λ a. h (g a)) o
option_map-twice g h None = refl
option_map-twice g h (Some a) = refl

-- no change
pub option_map-id : {A : Type 0} (g : A → A) (o : Option A) → ((a : A) → o ≡ Some a → g a ≡ a) → option_map g o ≡ o
option_map-id g None each = refl
option_map-id g (Some a) each = ap Some (each a refl)

-- what was told before a change
pub told_back : (o after : Option Files) (change : Files → Files) (now : Files) → after ≡ option_map change o → after ≡ Some now → (before : Files) × (o ≡ Some before) × (now ≡ change before)
told_back None after change now is there = absurd (cc)
told_back (Some before) after change now is there = (before, refl, cc)

-- a write keeps each length
pub length-written : (f g : FileId) (at : ℕ) (bytes : List ℕ) (files : Files) → at + length bytes ≤ length (files f) → length (written f at bytes files g) ≡ length (files g)
length-written f g at bytes files within = elim (same_file g f) [
  | inl same ↦ subst (λ (h : FileId). length (written f at bytes files h) ≡ length (files h)) (sym same) (ap length (with_file-here f (overwritten at bytes (files f)) files) ∙ length-overwritten at bytes (files f) within)
  | inr other ↦ ap length (with_file-other f g (overwritten at bytes (files f)) files other)
]

-- room stays room
pub Reaches-written : (a b : Option Files) (f g : FileId) (at end : ℕ) (bytes : List ℕ) → b ≡ option_map (written f at bytes) a → Reaches a f (at + length bytes) → Reaches a g end → Reaches b g end
Reaches-written None b f g at end bytes is here reaches = λ files told. absurd (cc)
Reaches-written (Some old) b f g at end bytes is here reaches = λ files told.
    let now : files ≡ written f at bytes old = cc in
    let size : length (files g) ≡ length (old g) = ap (λ (x : Files). length (x g)) now ∙ length-written f g at bytes old (here old refl) in
    omega (arith, size, reaches old refl)

-- the same of the files
pub written-twice : (f : FileId) (at : ℕ) (front back : List ℕ) (files : Files) → at + length front + length back ≤ length (files f)
    → written f (at + length front) back (written f at front files) ≡ written f at (front ++ back) files
written-twice f at front back files within = same_files _ _ (λ g. elim (same_file g f) [
  | inl same ↦ subst (λ (h : FileId). written f (at + length front) back (written f at front files) h ≡ written f at (front ++ back) files h) (sym same)
      (with_file-here f _ (written f at front files)
      ∙ ap (overwritten (at + length front) back) (with_file-here f (overwritten at front (files f)) files)
      ∙ overwritten-append at front back (files f) within
      ∙ sym (with_file-here f (overwritten at (front ++ back) (files f)) files))
  | inr other ↦ with_file-other f g _ (written f at front files) other ∙ with_file-other f g _ files other ∙ sym (with_file-other f g _ files other)
])

-- and of nothing
pub written-nil : (f : FileId) (at : ℕ) (files : Files) → written f at [] files ≡ files
written-nil f at files = same_files _ _ (λ g. elim (same_file g f) [
  | inl same ↦ subst (λ (h : FileId). written f at [] files h ≡ files h) (sym same) (with_file-here f _ files ∙ overwritten-nil at (files f))
  | inr other ↦ with_file-other f g _ files other
])

-- two writes one behind the other are one
pub told_join : (o mid after : Option Files) (f : FileId) (at place : ℕ) (front back whole : List ℕ) → Reaches o f (at + length whole) → place ≡ at + length front → whole ≡ front ++ back
    → mid ≡ option_map (written f at front) o → after ≡ option_map (written f place back) mid → after ≡ option_map (written f at whole) o
told_join o mid after f at place front back whole room place_is parts first second =
    let size : length whole ≡ length front + length back = ap length parts ∙ length-append front back in
    second
    ∙ ap (λ (p : ℕ). option_map (written f p back) mid) place_is
    ∙ ap (option_map (written f (at + length front) back)) first
    ∙ option_map-twice _ _ o
    ∙ option_map-same _ _ o (λ files is. written-twice f at front back files (omega (arith, room files is, size)))
    ∙ ap (λ (l : List ℕ). option_map (written f at l) o) (sym parts)

-- what a sync makes sure of, after a change that is told
pub durable_at : (f : FileId) (change : Files → Files) (o : Option Files) (old new : Device) → old.contents ≡ option_map change o
    → ForSome old.contents (λ files. new.moments ≡ and_then (with_image f (λ _. just_synced (files f))) old.moments) → ForSome o (λ files. LeavesNow (λ left. left f ≡ change files f) new.moments)
durable_at f change o old new told done = λ files there. durable f (change files) old new (told ∙ ap (option_map change) there) done

-- a file of another length with its end written
overwritten-resized : (at len : ℕ) (bytes old new : List ℕ) → at ≤ length old → len ≡ at + length bytes → IsResized len old new → overwritten at bytes new ≡ take at old ++ bytes
overwritten-resized at len bytes old new within is resized =
    let size = resized.size in
    written_end at bytes new (size ∙ is)
    ∙ ap (λ (l : List ℕ). l ++ bytes) (take_same at old new within (omega arith) (λ i low. resized.same i (omega arith) (omega arith)))

-- the same of the files
pub told_ended : (f : FileId) (at len : ℕ) (bytes : List ℕ) (o mid after : Option Files) → Reaches o f at → len ≡ at + length bytes → Turns (InFile f (IsResized len)) o mid → after ≡ option_map (written f at bytes) mid
    → after ≡ option_map (λ files. with_file f (take at (files f) ++ bytes) files) o
told_ended f at len bytes None None after room is turns told = told
told_ended f at len bytes None (Some now) after room is turns told = absurd turns
told_ended f at len bytes (Some was) None after room is turns told = absurd turns
told_ended f at len bytes (Some was) (Some now) after room is turns told = told ∙ ap Some (same_files _ _ (λ g. elim (same_file g f) [
  | inl same ↦ subst (λ (h : FileId). written f at bytes now h ≡ with_file f (take at (was f) ++ bytes) was h) (sym same)
      (with_file-here f _ now ∙ overwritten-resized at len bytes (was f) (now f) (room was refl) is turns.here ∙ sym (with_file-here f _ was))
  | inr other ↦ with_file-other f g _ now other ∙ turns.others g other ∙ sym (with_file-other f g _ was other)
]))

-- the room of a new length
pub Reaches-resized : (f : FileId) (len : ℕ) (o mid : Option Files) → Turns (InFile f (IsResized len)) o mid → Reaches mid f len
Reaches-resized f len None None turns = λ files told. absurd (cc)
Reaches-resized f len None (Some now) turns = absurd turns
Reaches-resized f len (Some was) None turns = absurd turns
Reaches-resized f len (Some was) (Some now) turns = λ files told.
    let same : now ≡ files = cc in
    let size : length (files f) ≡ len = ap (λ (x : Files). length (x f)) (sym same) ∙ turns.here.size in
    omega (arith, size)
