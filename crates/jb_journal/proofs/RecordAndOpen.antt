-- What the first two stages come to, on the disk.
use Rattle.std.proofs.Common.{◌≡◌, inl, inr, ℕ, ◌<◌, List, [], ◌∷◌, ◌++◌, length, refl, ap, sym, ◌∙◌, subst, Some, Result, Ok, Err, true, false}
use Rattle.std.specs.Prelude.{IsErr, OnOk, slice_index}
use Rattle.std.specs.Option.{ForSome, option_map}
use Rattle.jb_disk.specs.declared.file.FileId.{FileId}
use Rattle.jb_disk.specs.declared.file.FileId.TheVariants.{Jnl}
use Rattle.jb_disk.specs.RedoView.{RedoView}
use Rattle.jb_disk.specs.Files.{Files, written}
use Rattle.jb_disk.specs.FileLaws.{same_file, same_files}
use Rattle.jb_disk.specs.Images.{Images}
use Rattle.jb_disk.specs.Device.{Device, TellsAnImage}
use Rattle.jb_disk.specs.Runs.{LeavesNow, Runs, Shows, IsAllSynced}
use Rattle.jb_disk.proofs.RunLemmas.{runs-weaken}
use Rattle.jb_disk.proofs.FileLemmas.{leaves_both, leaves_map, only_told}
use Rattle.jb_disk.specs.Gate.{IsGateOpen, version_by, version_number}
use Rattle.jb_journal.specs.Commit.{IsReady, IsBeforeOrAfter, ReplaysTo}
use Rattle.jb_redo.specs.Changes.{changed}
use Rattle.jb_journal.specs.Doubt.{IsEarly}
use Rattle.jb_journal.specs.Opening.{StaysShut, OpensNowFor, WhereTold}
use Rattle.jb_journal.specs.Stages.{KeepsHead, IsAtGate, IsGoing, with_record, opened}
use Rattle.jb_journal.specs.Writing.{WidensFor}
use Rattle.jb_journal.proofs.OpenedLemmas.{at_gate_refl, going_replays, going_journal}
use Rattle.jb_journal.proofs.OpeningLemmas.{stays_shut, stays_shut_before, opens_now, where_told, told_claim}
use Rattle.jb_journal.proofs.ReadyLemmas.{opened_is, opened_going, opened-agrees, recorded-agrees, untouched_shut, untouched_early, early_replays, gate_or_not, from_opened}

-- false is not true
not-true : false ≡ true → ⊥
not-true is = cc

-- more moments than some are some
some_more : (later : List Images) (now : Images) (earlier : List Images) → (first : Images) × (rest : List Images) × (later ++ (now ∷ earlier) ≡ first ∷ rest)
some_more [] now earlier = (now, earlier, refl)
some_more (first ∷ later) now earlier = (first, later ++ (now ∷ earlier), refl)

-- a refusal has left the gate shut
pub refused_shut : {T E : Type 0} (result : Result T E) (property : Files → Type 0) (old new : List Images) → IsErr result → StaysShut old new → OpensNowFor result property old new
refused_shut (Ok value) property old new err shut = absurd (not-true err)
refused_shut (Err error) property old new err shut = shut

module _ (number : ℕ) (change : RedoView) (start : Files) (ready : IsReady number change start) where
  -- the files at the start
  untouched_start : KeepsHead start start
  untouched_start = record { same = λ file ne. refl; long = ready.plain.long; head = λ i low. refl }

  -- so all is at the start
  pub shows_start : (device : Device) → device.contents ≡ Some start → IsAllSynced device → Shows (KeepsHead start) device
  shows_start device there synced = record {
    read = only_told device.contents start (KeepsHead start) there untouched_start;
    left = leaves_map (λ left. left ≡ start) (KeepsHead start) device.moments (λ left same. subst (KeepsHead start) (sym same) untouched_start) (synced start there);
  }

  -- an early stop leaves files before or after
  pub early_before_or_after : (files : Files) → IsEarly number change start files → IsBeforeOrAfter change start files
  early_before_or_after files early = early_replays number change start ready files (gate_or_not files) early

  -- the record alone
  pub staging_run : (old new : Device) → Runs (KeepsHead start) old.moments new.moments → Runs (IsBeforeOrAfter change start) old.moments new.moments
  staging_run old new run = runs-weaken (KeepsHead start) (IsBeforeOrAfter change start) (λ files untouched. early_before_or_after files (untouched_early number change start ready files untouched)) old.moments new.moments run

  -- the gate is shut meanwhile
  shut : (files : Files) → KeepsHead start files → IsGateOpen files → ⊥
  shut files untouched is_open = untouched_shut number change start ready files untouched is_open.gate

  -- so it stays where the writing of the record was refused
  pub staging_shut : {T E : Type 0} (result : Result T E) (old new : Device) → IsErr result → Runs (KeepsHead start) old.moments new.moments → TellsAnImage new
      → WhereTold old.moments (OpensNowFor result (ReplaysTo (changed change start)) old.moments new.moments)
  staging_shut result old new err run tells = where_told old.moments _ (λ now earlier is. refused_shut result _ _ _ err (stays_shut_before (KeepsHead start) old new shut run tells))

  -- the record is there, and synced
  pub staged_shows : (old mid : Device) → old.contents ≡ Some start → mid.contents ≡ option_map (with_record number change) old.contents → Shows (KeepsHead start) mid
      → ForSome old.contents (λ files. LeavesNow (λ left. left Jnl ≡ with_record number change files Jnl) mid.moments) → Shows (IsAtGate (with_record number change start)) mid
  staged_shows old mid there told untouched durable = record {
    read = only_told mid.contents (with_record number change start) (IsAtGate (with_record number change start)) (told ∙ ap (option_map (with_record number change)) there) (at_gate_refl (with_record number change start));
    left = leaves_both (KeepsHead start) (λ left. left Jnl ≡ with_record number change start Jnl) (IsAtGate (with_record number change start)) mid.moments
        (λ left is jnl. record {
          same = λ file ne. is.same file ne ∙ sym (recorded-agrees number change start ready file ne);
          size = ap length jnl;
          behind = λ i high. ap (λ (l : List ℕ). slice_index l i) jnl;
        }) untouched.left (durable start there);
  }

  -- the gate is open, and synced
  pub opened_shows : (old mid new : Device) → old.contents ≡ Some start → mid.contents ≡ option_map (with_record number change) old.contents → new.contents ≡ option_map (written Jnl 0 (2 ∷ [])) mid.contents → Shows (IsAtGate (with_record number change start)) new
      → ForSome mid.contents (λ files. LeavesNow (λ left. left Jnl ≡ written Jnl 0 (2 ∷ []) files Jnl) new.moments) → Shows (IsGoing change (opened number change start)) new
  opened_shows old mid new there mid_is new_is at durable =
      let mid_there : mid.contents ≡ Some (with_record number change start) = mid_is ∙ ap (option_map (with_record number change)) there in
      let going : (files : Files) → files ≡ opened number change start → IsGoing change (opened number change start) files = λ files same. subst (IsGoing change (opened number change start)) (sym same) (opened_going number change start ready) in
      record {
        read = only_told new.contents (opened number change start) (IsGoing change (opened number change start)) (new_is ∙ ap (option_map (written Jnl 0 (2 ∷ []))) mid_there) (opened_going number change start ready);
        left = leaves_both (IsAtGate (with_record number change start)) (λ left. left Jnl ≡ opened number change start Jnl) (IsGoing change (opened number change start)) new.moments
            (λ left is jnl. going left (same_files left (opened number change start) (λ file. elim (same_file file Jnl) [
              | inl same ↦ subst (λ (f : FileId). left f ≡ opened number change start f) (sym same) jnl
              | inr other ↦ is.same file other ∙ recorded-agrees number change start ready file other ∙ sym (opened-agrees number change start ready file other)
            ]))) at.left (durable (with_record number change start) mid_there);
      }

  -- files on their way have the gate open
  going_open : (files : Files) → IsGoing change (opened number change start) files → IsGateOpen files
  going_open files way =
      let is = opened_is number change start ready in
      let same = going_journal change (opened number change start) is files way in
      record { longer = subst (λ (l : List ℕ). 16 < length l) (sym same) is.gate.longer; gate = subst (λ (l : List ℕ). slice_index l 0 ≡ version_number (version_by (slice_index l 1))) (sym same) is.gate.gate }

  -- and replay to the change
  pub going_after : (files : Files) → IsGoing change (opened number change start) files → ReplaysTo (changed change start) files
  going_after files way = from_opened number change start ready files (going_replays change (opened number change start) (opened_is number change start ready) files way)

  -- the gate has come to stand open, or has not
  pub gate_opens : {T E : Type 0} (result : Result T E) (old mid new : Device) → Runs (KeepsHead start) old.moments mid.moments → Shows (KeepsHead start) mid → TellsAnImage mid → WhereTold mid.moments (WidensFor result mid.moments new.moments)
      → OnOk result (Shows (IsGoing change (opened number change start)) new) → WhereTold old.moments (OpensNowFor result (ReplaysTo (changed change start)) old.moments new.moments)
  gate_opens result old mid new run untouched tells wide going = where_told old.moments _ (λ now earlier is.
      let more = some_more run.later now earlier in
      let there : mid.moments ≡ more.0 ∷ more.1 = run.since ∙ ap (λ (l : List Images). run.later ++ l) is ∙ more.2 in
      by_result result more.0 more.1 there (told_claim mid.moments _ more.0 more.1 there wide) going)
    where
      by_result : {T E : Type 0} (result : Result T E) (now : Images) (earlier : List Images) → mid.moments ≡ now ∷ earlier → WidensFor result mid.moments new.moments → OnOk result (Shows (IsGoing change (opened number change start)) new)
          → OpensNowFor result (ReplaysTo (changed change start)) old.moments new.moments
      by_result (Ok value) now earlier there widens going =
          opens_now (KeepsHead start) (ReplaysTo (changed change start)) old mid new shut run untouched.left tells now earlier there widens
          (leaves_map (IsGoing change (opened number change start)) IsGateOpen new.moments going_open going.left) (leaves_map (IsGoing change (opened number change start)) (ReplaysTo (changed change start)) new.moments going_after going.left)
      by_result (Err error) now earlier there widens going = stays_shut (KeepsHead start) old mid new shut run untouched.left tells now earlier there widens
