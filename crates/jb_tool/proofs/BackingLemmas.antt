-- An open area that is backed up: what becomes of the target, and of the counts of both disks.
use Rattle.std.proofs.Common.{◌≡◌, inl, inr, ℕ, List, [], ◌∷◌, ◌++◌, ap, refl, sym, ◌∙◌, subst, arith}
use Rattle.std.specs.Prelude.{Option, Some, Result, Ok, Err}
use Rattle.std.specs.Option.{ForSome}
use Rattle.jb_area.specs.Area.{IsResting}
use Rattle.jb_area.specs.Backups.{IsBackup}
use Rattle.jb_area.specs.declared.area.OpenArea.{OpenArea}
use Rattle.jb_area.proofs.BackupLemmas.{rest_backup, rest_same}
use Rattle.jb_backup.proofs.AnswerLemmas.{answers_none, answers_then}
use Rattle.jb_backup.proofs.Callers.{begins_then, begins_weaken, tiny_refused, unsigned_refused}
use Rattle.jb_backup.specs.Answers.{AnswersCopy, MayRefuse as may_refuse, is_target_fault}
use Rattle.jb_backup.specs.Begin.{BeginsAs, BeginsTiny, LeavesNoMore}
use Rattle.jb_backup.specs.Target.{AreEmpty, HasFront, IsBackupOf, IsFront, IsSame, IsTiny, IsUnsigned, backed_up}
use Rattle.jb_backup.specs.declared.error.BackupError.{BackupError}
use Rattle.jb_backup.specs.declared.error.BackupError.TheVariants.{SourceFault, TargetFault, InDoubt, NotEmpty, OutOfMemory}
use Rattle.jb_bytes.specs.Fault.{Rose}
use Rattle.jb_disk.proofs.FileLemmas.{leaves_map}
use Rattle.jb_disk.proofs.RunLemmas.{runs-refl, runs-then, runs-weaken}
use Rattle.jb_disk.specs.declared.file.FileId.TheVariants.{Jdt}
use Rattle.jb_disk.specs.Device.{CountsFaults, Device, OnlyReads}
use Rattle.jb_disk.specs.Files.{Files}
use Rattle.jb_disk.specs.Images.{Images, IsImage}
use Rattle.jb_disk.specs.Runs.{LeavesNow, LeavesOnly, Shows}
use Rattle.jb_image.specs.declared.error.OpenError.TheVariants.{OutOfMemory as no_memory}
use Rattle.jb_state.specs.Live.{live_count}
use Rattle.jb_state.specs.State.{AreaState, state_of}
use Rattle.jb_tool.specs.Backing.{CountsInOne, backed_line, of_backup}
use Rattle.jb_tool.specs.BackingArea.{CopiesArea, MayRefuse}
use Rattle.jb_tool.specs.declared.error.ToolError.TheVariants.{Open}

-- what a backup prints, where the count is that of the live messages
pub backed_line_is : (text before : List ℕ) (count live : ℕ) → text ≡ before ++ backed_line count → before ≡ [] → count ≡ live → text ≡ backed_line live
backed_line_is text before count live is none same = is ∙ ap (λ (b : List ℕ). b ++ backed_line count) none ∙ ap backed_line same

-- a target to which nothing is done
pub begins_none : (P : Files → Type 0) (target : Device) → BeginsAs P target target
begins_none P target = record { found = target.moments; before = no_more target.moments; since = inl refl; full = λ files there filled. refl }
  where
    no_more : (moments : List Images) → LeavesNoMore moments moments
    no_more [] = refl
    no_more (now ∷ earlier) = runs-refl (IsImage now) (now ∷ earlier) (now ∷ earlier) refl

-- nothing is a beginning of any texts
pub front_none : (copied : ℕ) (files : Files) (target : Option Files) → copied ≡ 0 → HasFront copied files target
front_none copied files target none = λ held there. subst (λ (n : ℕ). IsFront n (files Jdt) (held Jdt)) (sym none) (record { within = omega arith; same = refl })

-- from one part of a run to its end
pub leaves_then : (P : Files → Type 0) (a b c : Device) → LeavesOnly a b P → LeavesOnly b c P → LeavesOnly a c P
leaves_then P a b c one two = record { first = one.first; run = runs-then P a.moments b.moments c.moments one.run two.run }

-- and where nothing is done
pub leaves_none : (P : Files → Type 0) (a : Device) → LeavesNow P a.moments → LeavesOnly a a P
leaves_none P a first = record { first = first; run = runs-refl P a.moments a.moments refl }

-- copying that was done so far
abbrev pub Copies : Device → Device → Device → Device → Type 0
Copies source source_now target target_now = AnswersCopy {T = Unit {0}} source source_now target target_now (Ok tt)

-- nothing is copied
pub copies_nothing : (source target : Device) → Copies source source target target
copies_nothing source target = answers_none source target tt

-- one part more
pub copies_more : {T : Type 0} (source source_mid source_now target target_mid target_now : Device) (result : Result T BackupError) → Copies source source_mid target target_mid
    → AnswersCopy source_mid source_now target_mid target_now result → AnswersCopy source source_now target target_now result
copies_more source source_mid source_now target target_mid target_now result first second =
    answers_then source source_mid source_now target target_mid target_now tt result first second

-- as the answer of another call
pub copies_as : {T : Type 0} (source source_now target target_now : Device) (value : T) → AnswersCopy source source_now target target_now (Ok value) → Copies source source_now target target_now
copies_as source source_now target target_now value answer = record {
  reads = answer.reads;
  fault = tt;
  source_faults = record { quiet = answer.source_faults.quiet; later = answer.source_faults.later; cause = tt };
  target_faults = record { quiet = answer.target_faults.quiet; later = answer.target_faults.later; cause = tt };
  alike = answer.alike;
}

-- what is copied is still a beginning of the same texts
pub more_front : (source source_mid : Option Files) (old new : ℕ) (before now : Option Files) → source_mid ≡ source
    → ForSome source (λ files. HasFront old files before) → ForSome source_mid (λ files. HasFront old files before → HasFront new files now)
    → ForSome source (λ files. HasFront new files now)
more_front source source_mid old new before now same front next = λ files there. next files (same ∙ there) (front files there)

-- of what was only read all is told after it as before it
pub read_before : (P : Files → Type 0) (old now : Device) → OnlyReads old now → ForSome now.contents P → ForSome old.contents P
read_before P old now reads has = subst (λ (o : Option Files). ForSome o P) reads.contents has

pub read_after : (P : Files → Type 0) (old now : Device) → OnlyReads old now → ForSome old.contents P → ForSome now.contents P
read_after P old now reads has = subst (λ (o : Option Files). ForSome o P) (sym reads.contents) has

-- an unsigned target is a backup of any state
unsigned_backup : (state : AreaState) (a b : Device) → LeavesOnly a b IsUnsigned → LeavesOnly a b (IsBackup state)
unsigned_backup state a b leaves = record {
  first = leaves_map IsUnsigned (IsBackup state) a.moments (λ files is. inl (unsigned_refused files is)) leaves.first;
  run = runs-weaken IsUnsigned (IsBackup state) (λ files is. inl (unsigned_refused files is)) a.moments b.moments leaves.run;
}

-- two disks of which neither counted a fault
counts_none : (source target : Device) → CountsInOne source source target target (Err (Open no_memory))
counts_none source target = record { quiet = tt; later = omega arith; other_later = omega arith; cause = (refl, refl) }

-- a copying that was refused behind a begin counted in one of them
copying_counts : {T : Type 0} (source source_now target begun target_now : Device) (error : BackupError) → begun.faults ≡ target.faults
    → AnswersCopy {T = T} source source_now begun target_now (Err error) → CountsInOne source source_now target target_now (Err (of_backup error))
copying_counts source source_now target begun target_now SourceFault quiet answer = record {
  quiet = tt;
  later = answer.source_faults.later;
  other_later = omega (arith, quiet, answer.target_faults.later);
  cause = inl answer.source_faults.cause;
}
copying_counts source source_now target begun target_now TargetFault quiet answer = record {
  quiet = tt;
  later = answer.source_faults.later;
  other_later = omega (arith, quiet, answer.target_faults.later);
  cause = inr (subst (λ (n : ℕ). Rose n target_now.faults) quiet answer.target_faults.cause);
}
copying_counts source source_now target begun target_now InDoubt quiet answer = absurd answer.fault
copying_counts source source_now target begun target_now (NotEmpty file) quiet answer = absurd answer.fault
copying_counts source source_now target begun target_now OutOfMemory quiet answer = absurd answer.fault

-- and it is a fault
copying_refused : (target target_now : Device) {T : Type 0} (source source_now begun : Device) (error : BackupError)
    → AnswersCopy {T = T} source source_now begun target_now (Err error) → MayRefuse target target_now (of_backup error)
copying_refused target target_now source source_now begun SourceFault answer = inr refl
copying_refused target target_now source source_now begun TargetFault answer = inr refl
copying_refused target target_now source source_now begun InDoubt answer = absurd answer.fault
copying_refused target target_now source source_now begun (NotEmpty file) answer = absurd answer.fault
copying_refused target target_now source source_now begun OutOfMemory answer = absurd answer.fault

-- a target that was not begun counted its own fault alone
begin_counts : {T : Type 0} (source target target_now : Device) (error : BackupError) → may_refuse target target_now error
    → CountsFaults {T = T} is_target_fault target target_now (Err error) → CountsInOne source source target target_now (Err (of_backup error))
begin_counts source target target_now SourceFault refused counts = absurd refused
begin_counts source target target_now TargetFault refused counts = record { quiet = tt; later = omega arith; other_later = counts.later; cause = inr counts.cause }
begin_counts source target target_now InDoubt refused counts = absurd refused
begin_counts source target target_now (NotEmpty file) refused counts = record { quiet = tt; later = omega arith; other_later = counts.later; cause = (refl, counts.cause) }
begin_counts source target target_now OutOfMemory refused counts = absurd refused

-- why it was not
begin_refused : (target target_now : Device) (error : BackupError) → BeginsTiny target target_now → may_refuse target target_now error
    → MayRefuse target target_now (of_backup error)
begin_refused target target_now SourceFault begins refused = absurd refused
begin_refused target target_now TargetFault begins refused = inr refl
begin_refused target target_now InDoubt begins refused = absurd refused
begin_refused target target_now (NotEmpty file) begins refused = record {
  full = refused.0;
  same = refused.1;
  left = λ files there. subst (λ (m : List Images). LeavesNoMore target.moments m) (sym (begins.full files there (λ empty. (refused.0 files there).full (empty file)))) begins.before;
}
begin_refused target target_now OutOfMemory begins refused = absurd refused

module _ {D : Type 0} (shown : D → Device) (old : OpenArea D) (target : Device) where
  -- there was no memory, and nothing is done
  pub copies_none : CopiesArea shown old old target target (Err (Open no_memory))
  copies_none = record {
    reads = record { contents = refl; moments = refl };
    line = tt;
    empty = tt;
    opens = tt;
    failed = inl (refl, refl);
    crash = λ files there texts rests. begins_none (IsBackup (state_of texts old.held)) target;
    faults = counts_none (shown old.disk) target;
  }

  -- the target is not begun
  pub copies_refused : {T : Type 0} (target_now : Device) (error : BackupError) → BeginsTiny target target_now → may_refuse target target_now error
      → CountsFaults {T = T} is_target_fault target target_now (Err error) → CopiesArea shown old old target target_now (Err (of_backup error))
  copies_refused target_now error begins refused counts = record {
    reads = record { contents = refl; moments = refl };
    line = tt;
    empty = tt;
    opens = tt;
    failed = begin_refused target target_now error begins refused;
    crash = λ files there texts rests.
        begins_weaken IsTiny (IsBackup (state_of texts old.held)) (λ left tiny. inl (tiny_refused left tiny)) target target_now begins;
    faults = begin_counts (shown old.disk) target target_now error refused counts;
  }

  module _ (begun : Device) (begins : BeginsTiny target begun) (empty : ForSome target.contents AreEmpty) (quiet : begun.faults ≡ target.faults) where
    -- what a crash leaves of a target that is begun, and then a backup of this state at each moment
    begins_backup : (state : AreaState) (target_now : Device) → LeavesOnly begun target_now (IsBackup state) → BeginsAs (IsBackup state) target target_now
    begins_backup state target_now leaves =
        begins_then (IsBackup state) target begun target_now empty (begins_weaken IsTiny (IsBackup state) (λ left tiny. inl (tiny_refused left tiny)) target begun begins) leaves

    -- the texts are not all copied
    pub copies_stopped : {T : Type 0} (new : OpenArea D) (target_now : Device) (error : BackupError) → AnswersCopy {T = T} (shown old.disk) (shown new.disk) begun target_now (Err error)
        → LeavesOnly begun target_now IsUnsigned → CopiesArea shown old new target target_now (Err (of_backup error))
    copies_stopped new target_now error answer leaves = record {
      reads = answer.reads;
      line = tt;
      empty = tt;
      opens = tt;
      failed = copying_refused target target_now (shown old.disk) (shown new.disk) begun error answer;
      crash = λ files there texts rests. begins_backup (state_of texts old.held) target_now (unsigned_backup (state_of texts old.held) begun target_now leaves);
      faults = copying_counts (shown old.disk) (shown new.disk) target begun target_now error quiet answer;
    }

    module _ (mid : Device) (leaves : LeavesOnly begun mid IsUnsigned) (target_now : Device)
        (signs : ForSome (shown old.disk).contents (λ files. LeavesOnly mid target_now (IsBackupOf (backed_up files)))) where
      -- what a crash leaves where the copying comes to its end
      begins_signed : (files : Files) → (shown old.disk).contents ≡ Some files → (texts : List ℕ) → IsResting shown old texts
          → BeginsAs (IsBackup (state_of texts old.held)) target target_now
      begins_signed files there texts rests =
          let state = state_of texts old.held in
          begins_backup state target_now
          (leaves_then (IsBackup state) begun mid target_now (unsigned_backup state begun mid leaves) (rest_backup shown old texts rests mid target_now signs files there))

      -- the rest is not all copied, or not signed
      pub copies_unsigned : {T : Type 0} (new : OpenArea D) (error : BackupError) → AnswersCopy {T = T} (shown old.disk) (shown new.disk) begun target_now (Err error)
          → CopiesArea shown old new target target_now (Err (of_backup error))
      copies_unsigned new error answer = record {
        reads = answer.reads;
        line = tt;
        empty = tt;
        opens = tt;
        failed = copying_refused target target_now (shown old.disk) (shown new.disk) begun error answer;
        crash = begins_signed;
        faults = copying_counts (shown old.disk) (shown new.disk) target begun target_now error quiet answer;
      }

      -- all is copied
      pub copies_done : {T : Type 0} (new : OpenArea D) (value : T) (text : List ℕ) → AnswersCopy (shown old.disk) (shown new.disk) begun target_now (Ok value)
          → ForSome (shown old.disk).contents (λ files. Shows (IsSame (backed_up files)) target_now)
          → ((texts : List ℕ) → text ≡ backed_line (live_count (state_of texts old.held).slots)) → CopiesArea shown old new target target_now (Ok text)
      copies_done new value text answer whole line = record {
        reads = answer.reads;
        line = line;
        empty = empty;
        opens = λ files there texts rests. rest_same shown old texts rests target_now whole files there;
        failed = tt;
        crash = begins_signed;
        faults = record {
          quiet = (answer.source_faults.quiet, answer.target_faults.quiet ∙ quiet);
          later = answer.source_faults.later;
          other_later = omega (arith, quiet, answer.target_faults.later);
          cause = tt;
        };
      }
