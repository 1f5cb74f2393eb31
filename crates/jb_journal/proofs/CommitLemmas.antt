-- What a commit comes to, on the disk.
use Rattle.std.proofs.Common.{◌≡◌, ℕ, inl, inr, refl, ap, sym, ◌∙◌, subst, Option, Some, None}
use Rattle.std.specs.Option.{ForSome, option_map}
use Rattle.jb_disk.specs.RedoView.{RedoView}
use Rattle.jb_disk.specs.Files.{Files}
use Rattle.jb_disk.specs.Device.{Device}
use Rattle.jb_disk.specs.Runs.{LeavesNow, Shows, IsAllSynced}
use Rattle.jb_journal.specs.Commit.{IsReady, IsBeforeOrAfter, committed}
use Rattle.jb_journal.specs.Doubt.{IsLate}
use Rattle.jb_journal.specs.Stages.{IsAtGate, IsGoing, IsClosing, IsUnderWay, closed, opened}
use Rattle.jb_journal.proofs.Told.{told_back}
use Rattle.jb_journal.proofs.SyncLemmas.{shows_map}
use Rattle.jb_journal.proofs.OpenedLemmas.{shut_replays, not_one}
use Rattle.jb_journal.proofs.ReadyLemmas.{opened_is, version-opened, opened_going, closed-committed}
use Rattle.jb_disk.proofs.FileLemmas.{leaves_map}

-- nothing is not something
none-some : (files : Files) → None ≡ Some files → ⊥
none-some files is = cc

-- at the start a crash leaves the files before
pub before_at_start : (number : ℕ) (change : RedoView) (start : Files) (device : Device) → IsReady number change start → device.contents ≡ Some start → IsAllSynced device → LeavesNow (IsBeforeOrAfter change start) device.moments
before_at_start number change start device ready there synced =
    leaves_map (λ left. left ≡ start) (IsBeforeOrAfter change start) device.moments
    (λ left same. subst (IsBeforeOrAfter change start) (sym same) (inl (shut_replays start start (not_one start ready.plain.shut) (λ file ne. refl)))) (synced start there)

-- the change is under way
pub under_way : (number : ℕ) (change : RedoView) (o after : Option Files) → ForSome o (IsReady number change) → after ≡ option_map (opened number change) o → ForSome after (IsUnderWay change)
under_way number change o after ready told = λ files there.
    let back = told_back o after (opened number change) files told there in
    let is = ready back.0 back.1 in
    record { from = opened number change back.0; is = opened_is number change back.0 is; two = version-opened number change back.0 is; way = subst (IsGoing change (opened number change back.0)) (sym back.2) (opened_going number change back.0 is) }

-- what a late stop leaves
pub closing_late : (number : ℕ) (change : RedoView) (start : Files) (device : Device) → IsReady number change start → Shows (IsClosing change (opened number change start)) device → Shows (IsLate number change start) device
closing_late number change start device ready shows = shows_map (IsClosing change (opened number change start)) (IsLate number change start) device
    (λ files closing. elim closing [
      | inl way ↦ inl way
      | inr at ↦ inr (subst (λ (x : Files). IsAtGate x files) (closed-committed number change start ready) at)
    ]) shows

-- what is told at the end
pub told_committed : (number : ℕ) (change : RedoView) (o mid after : Option Files) → ForSome o (IsReady number change) → mid ≡ option_map (opened number change) o → (mid ≡ None → after ≡ None)
    → ((start : Files) → o ≡ Some start → after ≡ option_map (λ files. closed change (opened number change start)) mid) → after ≡ option_map (committed number change) o
told_committed number change None mid after ready first silent done = silent first
told_committed number change (Some start) mid after ready first silent done =
    done start refl ∙ ap (option_map (λ files. closed change (opened number change start))) first ∙ ap Some (closed-committed number change start (ready start refl))

-- nothing is unsynced at the end
pub synced_at_end : (number : ℕ) (change : RedoView) (o mid : Option Files) (new : Device) → mid ≡ option_map (opened number change) o → (mid ≡ None → new.contents ≡ None) → ((start : Files) → o ≡ Some start → IsAllSynced new) → IsAllSynced new
synced_at_end number change None mid new first silent synced = λ files there. absurd (none-some files (sym (silent first) ∙ there))
synced_at_end number change (Some start) mid new first silent synced = synced start refl
