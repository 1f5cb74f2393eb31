-- A doubt is settled.
use Rattle.std.proofs.Common.{◌≡◌, ◌≢◌, inl, inr, ℕ, ◌<◌, List, length, refl, ap, sym, ◌∙◌, subst, arith, Option, Some, None}
use Rattle.std.specs.Prelude.{slice_index}
use Rattle.std.specs.Option.{ForSome, option_map}
use Rattle.jb_disk.specs.declared.file.FileId.{FileId}
use Rattle.jb_disk.specs.declared.file.FileId.TheVariants.{Jnl}
use Rattle.jb_disk.specs.RedoView.{RedoView}
use Rattle.jb_disk.specs.Files.{Files}
use Rattle.jb_disk.specs.FileLaws.{same_file, same_files}
use Rattle.jb_disk.specs.Device.{Device, Turns, TellsAnImage}
use Rattle.jb_disk.specs.Runs.{LeavesNow, Runs, Shows, Keeps, IsAllSynced}
use Rattle.jb_disk.proofs.RunLemmas.{runs-refl, runs-then, runs-weaken}
use Rattle.jb_disk.proofs.FileLemmas.{leaves_both, leaves_map}
use Rattle.jb_disk.specs.Gate.{IsGateOpen, IsShut, version_by, version_of, version_number}
use Rattle.jb_journal.specs.declared.stopped.Stopped.{Stopped}
use Rattle.jb_journal.specs.declared.stopped.Stopped.TheVariants.{Early, Late}
use Rattle.jb_journal.specs.Commit.{AgreeButJournal, IsReady, ReplaysTo, IsBeforeOrAfter, committed}
use Rattle.jb_redo.specs.Changes.{changed}
use Rattle.jb_journal.specs.Doubt.{IsEarly, IsLate, IsInDoubt, HasStopped, DoubtReplays, IsSettledAt}
use Rattle.jb_journal.specs.Prepare.{IsPrepared, IsPreparing}
use Rattle.jb_journal.specs.Stages.{IsAtGate, IsGoing, IsClosing, IsUnderWay, closed, opened}
use Rattle.jb_journal.proofs.SyncLemmas.{shows_map}
use Rattle.jb_journal.proofs.WriteAndClose.{shows_silent, shows_is, told_is}
use Rattle.jb_journal.proofs.OpenedLemmas.{going_journal, closing_going, closing_replays, length-closed, gate-closed, version-closed, closed-agrees}
use Rattle.jb_journal.proofs.ReadyLemmas.{opened_is, version-opened, opened_going, early_opened, from_opened, closed-committed, changed-agrees, committed-agrees}
use Rattle.jb_journal.proofs.RecordAndOpen.{early_before_or_after}
use Rattle.jb_journal.proofs.PrepareLemmas.{preparing_shut, shows_preparing, wants_or_not, plain_made}

-- zero is not two
zero-two : ◌≡◌ {A = ℕ} 0 2 → ⊥
zero-two is = omega (arith, is)

-- behind more than a head, a closed gate is a byte other than the one of the version
shut_byte : (files : Files) → 16 < length (files Jnl) → (IsGateOpen files → ⊥) → IsShut files
shut_byte files longer shut one = shut (record { longer = longer; gate = one })

-- a gate that is open is so in each journal of the same bytes
same_gate : (one other : Files) → other Jnl ≡ one Jnl → IsGateOpen one → IsGateOpen other
same_gate one other same is_open = record {
  longer = subst (λ (l : List ℕ). 16 < length l) (sym same) is_open.longer;
  gate = subst (λ (l : List ℕ). slice_index l 0 ≡ version_number (version_by (slice_index l 1))) (sym same) is_open.gate;
}

module _ (number : ℕ) (change : RedoView) (start : Files) (ready : IsReady number change start) where
  -- a late stop is in the last stages
  late_closing : (files : Files) → IsLate number change start files → IsClosing change (opened number change start) files
  late_closing files (inl way) = inl way
  late_closing files (inr at) = inr (subst (λ (x : Files). IsAtGate x files) (sym (closed-committed number change start ready)) at)

  -- with an open gate the change is on its way
  doubt_open : (stopped : Stopped) (files : Files) → IsInDoubt stopped number change start files → IsGateOpen files → IsGoing change (opened number change start) files
  doubt_open Early files early is_open = subst (IsGoing change (opened number change start)) (sym (early_opened number change start ready files early is_open)) (opened_going number change start ready)
  doubt_open Late files late is_open = closing_going change (opened number change start) (opened_is number change start ready) files (late_closing files late) is_open.gate

  -- what the doubt leaves
  pub doubt_replays : (stopped : Stopped) (files : Files) → IsInDoubt stopped number change start files → DoubtReplays stopped change start files
  doubt_replays Early files early = early_before_or_after number change start ready files early
  doubt_replays Late files late = from_opened number change start ready files (closing_replays change (opened number change start) (opened_is number change start ready) files (late_closing files late))

  -- files after the change are what the doubt allows
  pub after_replays : (stopped : Stopped) (files : Files) → ReplaysTo (changed change (opened number change start)) files → DoubtReplays stopped change start files
  after_replays Early files replays = inr (from_opened number change start ready files replays)
  after_replays Late files replays = from_opened number change start ready files replays

  -- the end of a change is settled
  done_settled : IsSettledAt (changed change start) (closed change (opened number change start))
  done_settled =
      let is = opened_is number change start ready in
      let size = length-closed change (opened number change start) is in
      let longer = is.gate.longer in
      record {
        same = λ file ne. closed-agrees change (opened number change start) is file ne ∙ changed-agrees number change start ready file ne;
        plain = record {
          long = omega (arith, size);
          two = version-closed change (opened number change start) is (version-opened number change start ready);
          shut = λ one. zero-two (sym (gate-closed change (opened number change start) is) ∙ one ∙ ap version_number (version-closed change (opened number change start) is (version-opened number change start ready)));
        };
      }

  -- with a closed gate a late stop is settled too
  shut_settled : (files : Files) → IsLate number change start files → (IsGateOpen files → ⊥) → IsAtGate (committed number change start) files
  shut_settled files (inl way) shut =
      let is = opened_is number change start ready in
      let same = going_journal change (opened number change start) is files way in
      absurd (shut (same_gate (opened number change start) files same is.gate))
  shut_settled files (inr at) shut = at

  -- as the end of the change
  late_settled : (files : Files) → IsAtGate (committed number change start) files → (IsGateOpen files → ⊥) → IsSettledAt (changed change start) files
  late_settled files at shut =
      let is = opened_is number change start ready in
      let size : length (committed number change start Jnl) ≡ length (opened number change start Jnl) = ap (λ (x : Files). length (x Jnl)) (sym (closed-committed number change start ready)) ∙ length-closed change (opened number change start) is in
      let longer = is.gate.longer in
      record {
        same = λ file ne. at.same file ne ∙ committed-agrees number change start ready file ne;
        plain = record {
          long = omega (arith, at.size, size);
          two = ap version_by (at.behind 1 (omega arith)) ∙ ap version_of (sym (closed-committed number change start ready)) ∙ version-closed change (opened number change start) is (version-opened number change start ready);
          shut = shut_byte files (omega (arith, at.size, size)) shut;
        };
      }

  module _ (device : Device) (tells : TellsAnImage device) (stopped : Stopped) (shows : Shows (IsInDoubt stopped number change start) device) (durable : ForSome device.contents (λ files. LeavesNow (λ left. left Jnl ≡ files Jnl) device.moments)) where
    -- what a crash leaves has the gate that is read
    gate_left : (files left : Files) → left Jnl ≡ files Jnl → IsGateOpen files → IsGateOpen left
    gate_left files left same is_open = same_gate files left same is_open

    -- where it is open, the change is on its way
    pub shows_going : ForSome device.contents IsGateOpen → Shows (IsGoing change (opened number change start)) device
    shows_going is_open = by_contents device.contents refl
      where
        by_contents : (contents : Option Files) → device.contents ≡ contents → Shows (IsGoing change (opened number change start)) device
        by_contents None none = shows_silent (IsGoing change (opened number change start)) device tells none
        by_contents (Some now) there = record {
          read = λ files is. doubt_open stopped files (shows.read files is) (is_open files is);
          left = leaves_both (IsInDoubt stopped number change start) (λ left. left Jnl ≡ now Jnl) (IsGoing change (opened number change start)) device.moments
              (λ left doubt same. doubt_open stopped left doubt (gate_left now left same (is_open now there))) shows.left (durable now there);
        }

    -- where it is closed after a late stop, the change is there
    pub shows_late : stopped ≡ Late → ForSome device.contents (λ files. IsGateOpen files → ⊥) → Shows (IsSettledAt (changed change start)) device
    shows_late late shut = by_contents device.contents refl
      where
        lately : (files : Files) → IsInDoubt stopped number change start files → IsLate number change start files
        lately files doubt = subst (λ (s : Stopped). IsInDoubt s number change start files) late doubt

        by_contents : (contents : Option Files) → device.contents ≡ contents → Shows (IsSettledAt (changed change start)) device
        by_contents None none = shows_silent (IsSettledAt (changed change start)) device tells none
        by_contents (Some now) there = record {
          read = λ files is. late_settled files (shut_settled files (lately files (shows.read files is)) (shut files is)) (shut files is);
          left = leaves_both (IsInDoubt stopped number change start) (λ left. left Jnl ≡ now Jnl) (IsSettledAt (changed change start)) device.moments
              (λ left doubt same.
              let closed_too : IsGateOpen left → ⊥ = λ is_open. shut now there (gate_left left now (sym same) is_open) in
              late_settled left (shut_settled left (lately left doubt) closed_too) closed_too) shows.left (durable now there);
        }

    -- and nothing is unsynced
    pub synced_late : stopped ≡ Late → ForSome device.contents (λ files. IsGateOpen files → ⊥) → IsAllSynced device
    synced_late late shut = λ now there.
        let settled = shows_late late shut in
        leaves_both (IsSettledAt (changed change start)) (λ left. left Jnl ≡ now Jnl) (λ left. left ≡ now) device.moments
        (λ left is same. same_files left now (λ file. elim (same_file file Jnl) [
          | inl jnl ↦ subst (λ (f : FileId). left f ≡ now f) (sym jnl) same
          | inr other ↦ is.same file other ∙ sym ((settled.read now there).same file other)
        ])) settled.left (durable now there)

    -- so it is after an early stop
    pub synced_early : stopped ≡ Early → IsAllSynced device
    synced_early early = λ now there.
        leaves_both (IsInDoubt stopped number change start) (λ left. left Jnl ≡ now Jnl) (λ left. left ≡ now) device.moments
        (λ left doubt same. same_files left now (λ file. elim (same_file file Jnl) [
          | inl jnl ↦ subst (λ (f : FileId). left f ≡ now f) (sym jnl) same
          | inr other ↦ (early_of left doubt).same file other ∙ sym ((early_of now (shows.read now there)).same file other)
        ])) shows.left (durable now there)
      where
        early_of : (files : Files) → IsInDoubt stopped number change start files → IsEarly number change start files
        early_of files doubt = subst (λ (s : Stopped). IsInDoubt s number change start files) early doubt

  -- the head is made anew: a refusal is an early stop again
  pub preparing_early : (before files : Files) → IsEarly number change start before → (IsGateOpen before → ⊥) → IsPreparing before files → IsEarly number change start files
  preparing_early before files early shut preparing = record {
    same = λ file ne. preparing.same file ne ∙ early.same file ne;
    gate = λ is_open. absurd (preparing_shut before files shut preparing is_open);
  }

  -- and when it is made, the files are as they were
  pub prepared_settled : (before after : Files) → IsEarly number change start before → (IsGateOpen before → ⊥) → IsPrepared before after → IsSettledAt start after
  prepared_settled before after early shut prepared = elim (wants_or_not before) [
    | inl wants ↦ record { same = same; plain = plain_made after (prepared.made wants) }
    | inr kept ↦
        let is = prepared.kept kept.0 kept.1 in
        record {
          same = same;
          plain = record {
            long = (let size = ap length is in let longer = kept.1 in omega (arith, size));
            two = ap (λ (l : List ℕ). version_by (slice_index l 1)) is ∙ kept.0;
            shut = subst (λ (l : List ℕ). slice_index l 0 ≢ version_number (version_by (slice_index l 1))) (sym is) (shut_byte before kept.1 shut);
          };
        }
  ]
    where
      same : AgreeButJournal after start
      same file ne = prepared.same file ne ∙ early.same file ne

  -- so it is shown
  pub shows_prepared : (old new : Device) → TellsAnImage new → Shows (IsEarly number change start) old → ForSome old.contents (λ files. IsGateOpen files → ⊥) → Turns IsPrepared old.contents new.contents → IsAllSynced new → Shows (IsSettledAt start) new
  shows_prepared old new tells shows shut made synced = by_contents old.contents new.contents refl refl made
    where
      by_contents : (before after : Option Files) → old.contents ≡ before → new.contents ≡ after → Turns IsPrepared before after → Shows (IsSettledAt start) new
      by_contents before None was is turns = shows_silent (IsSettledAt start) new tells is
      by_contents None (Some after) was is turns = absurd turns
      by_contents (Some before) (Some after) was is turns =
          let settled = prepared_settled before after (shows.read before was) (shut before was) turns in
          record {
            read = λ files there. (let same : after ≡ files = some-same after files (sym is ∙ there) in subst (IsSettledAt start) same settled);
            left = leaves_map (λ left. left ≡ after) (IsSettledAt start) new.moments (λ left same. subst (IsSettledAt start) (sym same) settled) (synced after is);
          }
        where
          some-same : (a b : Files) → Some a ≡ Some b → a ≡ b
          some-same a b same = cc

  -- a refusal, shown
  pub shows_early_again : (old new : Device) → TellsAnImage old → TellsAnImage new → Shows (IsEarly number change start) old → ForSome old.contents (λ files. IsGateOpen files → ⊥) → IsAllSynced old
      → ((before : Files) → Keeps (IsPreparing before) old new) → (old.contents ≡ None → new.contents ≡ None) → Shows (IsEarly number change start) new
  shows_early_again old new tells_old tells shows shut synced keeps silent = by_contents old.contents refl
    where
      by_contents : (before : Option Files) → old.contents ≡ before → Shows (IsEarly number change start) new
      by_contents None none = shows_silent (IsEarly number change start) new tells (silent none)
      by_contents (Some before) was =
          shows_map (IsPreparing before) (IsEarly number change start) new (λ files preparing. preparing_early before files (shows.read before was) (shut before was) preparing) ((keeps before).shows (shows_preparing before old was synced))

  -- at each moment of it the files are as they were
  pub preparing_run : (old new : Device) → TellsAnImage old → TellsAnImage new → Shows (IsEarly number change start) old → ForSome old.contents (λ files. IsGateOpen files → ⊥) → IsAllSynced old → ((before : Files) → Keeps (IsPreparing before) old new)
      → (old.contents ≡ None → new.contents ≡ None) → Runs (IsBeforeOrAfter change start) old.moments new.moments
  preparing_run old new tells_old tells shows shut synced keeps silent = by_contents old.contents refl
    where
      by_contents : (before : Option Files) → old.contents ≡ before → Runs (IsBeforeOrAfter change start) old.moments new.moments
      by_contents None none = runs-refl (IsBeforeOrAfter change start) old.moments new.moments (tells.both (silent none) ∙ sym (tells_old.both none))
      by_contents (Some before) was =
          runs-weaken (IsPreparing before) (IsBeforeOrAfter change start)
          (λ files preparing. early_before_or_after number change start ready files (preparing_early before files (shows.read before was) (shut before was) preparing)) old.moments new.moments
          ((keeps before).run (shows_preparing before old was synced))

  -- where finished, all is settled
  pub shows_finished : (o : Option Files) (new : Device) → TellsAnImage new → new.contents ≡ option_map (λ files. closed change (opened number change start)) o → IsAllSynced new → Shows (IsSettledAt (changed change start)) new
  shows_finished o new tells told synced =
      shows_map (λ files. files ≡ closed change (opened number change start)) (IsSettledAt (changed change start)) new (λ files same. subst (IsSettledAt (changed change start)) (sym same) done_settled)
      (shows_is new (closed change (opened number change start)) tells (told_is o new.contents (closed change (opened number change start)) told) synced)

  -- what a crash leaves before the first call
  pub doubt_first : (stopped : Stopped) (device : Device) → Shows (IsInDoubt stopped number change start) device → LeavesNow (DoubtReplays stopped change start) device.moments
  doubt_first stopped device shows = leaves_map (IsInDoubt stopped number change start) (DoubtReplays stopped change start) device.moments (doubt_replays stopped) shows.left

  -- and while the gate is read
  pub doubt_run : (stopped : Stopped) (old new : Device) → Keeps (IsInDoubt stopped number change start) old new → Shows (IsInDoubt stopped number change start) old → Runs (DoubtReplays stopped change start) old.moments new.moments
  doubt_run stopped old new keeps shows = runs-weaken (IsInDoubt stopped number change start) (DoubtReplays stopped change start) (doubt_replays stopped) old.moments new.moments (keeps.run shows)

  -- and while the change is finished
  pub finish_run : (stopped : Stopped) (old mid new : Device) → Runs (DoubtReplays stopped change start) old.moments mid.moments → Runs (ReplaysTo (changed change (opened number change start))) mid.moments new.moments
      → Runs (DoubtReplays stopped change start) old.moments new.moments
  finish_run stopped old mid new first second = runs-then (DoubtReplays stopped change start) old.moments mid.moments new.moments first
      (runs-weaken (ReplaysTo (changed change (opened number change start))) (DoubtReplays stopped change start) (after_replays stopped) mid.moments new.moments second)

  -- and while the head is made anew
  pub head_run : (stopped : Stopped) (old mid new : Device) → stopped ≡ Early → Runs (DoubtReplays stopped change start) old.moments mid.moments → Runs (IsBeforeOrAfter change start) mid.moments new.moments
      → Runs (DoubtReplays stopped change start) old.moments new.moments
  head_run stopped old mid new early first second = runs-then (DoubtReplays stopped change start) old.moments mid.moments new.moments first
      (subst (λ (s : Stopped). Runs (DoubtReplays s change start) mid.moments new.moments) (sym early) second)

  -- a late stop again
  pub shows_late_again : (device : Device) → Shows (IsClosing change (opened number change start)) device → Shows (IsLate number change start) device
  shows_late_again device shows = shows_map (IsClosing change (opened number change start)) (IsLate number change start) device
      (λ files closing. elim closing [
        | inl way ↦ inl way
        | inr at ↦ inr (subst (λ (x : Files). IsAtGate x files) (closed-committed number change start ready) at)
      ]) shows

-- the change is under way behind an open gate
pub doubt_under_way : (stopped : Stopped) (change : RedoView) (device : Device) → ForSome device.contents (λ files. HasStopped stopped change device) → ForSome device.contents IsGateOpen → ForSome device.contents (IsUnderWay change)
doubt_under_way stopped change device doubt is_open = λ files there.
    let has = doubt files there in
    record {
      from = opened has.number change has.start;
      is = opened_is has.number change has.start has.ready;
      two = version-opened has.number change has.start has.ready;
      way = doubt_open has.number change has.start has.ready stopped files (has.shows.read files there) (is_open files there);
    }
