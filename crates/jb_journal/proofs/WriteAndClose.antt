-- What the last two stages come to, on the disk.
use Rattle.std.proofs.Common.{◌≡◌, inr, ◌≤◌, [], ◌∷◌, length, refl, ap, sym, ◌∙◌, subst, Option, Some, None}
use Rattle.std.specs.Option.{ForSome, option_map}
use Rattle.jb_disk.specs.declared.file.FileId.TheVariants.{Jnl}
use Rattle.jb_disk.specs.RedoView.{RedoView}
use Rattle.jb_disk.specs.declared.version.Version.TheVariants.{Two}
use Rattle.jb_disk.specs.Files.{Files, written}
use Rattle.jb_disk.specs.Gate.{version_of}
use Rattle.jb_disk.specs.Device.{Device, TellsAnImage}
use Rattle.jb_disk.specs.Runs.{LeavesNow, Runs, Shows, Keeps, IsAllSynced}
use Rattle.jb_disk.proofs.RunLemmas.{runs-weaken}
use Rattle.jb_disk.proofs.FileLemmas.{leaves_both, leaves_map, only_told}
use Rattle.jb_journal.specs.Commit.{ReplaysTo}
use Rattle.jb_redo.specs.Changes.{changed}
use Rattle.jb_journal.specs.Stages.{IsAtGate, IsOpened, IsGoing, IsClosing, IsUnderWay, closed}
use Rattle.jb_journal.proofs.Told.{told_back}
use Rattle.jb_journal.proofs.SyncLemmas.{shows_map}
use Rattle.jb_journal.proofs.OpenedLemmas.{at_gate_refl, at_gate_written, done_some, closing_gate_replays, closed_from}

-- a disk that tells nothing shows everything
pub shows_silent : (P : Files → Type 0) (device : Device) → TellsAnImage device → device.contents ≡ None → Shows P device
shows_silent P device tells none = record {
  read = λ files there. absurd (never files (sym none ∙ there));
  left = subst (LeavesNow P) (sym (tells.both none)) tt;
}
  where
    never : (files : Files) → None ≡ Some files → ⊥
    never files is = cc

-- one thing is read and left
pub shows_is : (device : Device) (x : Files) → TellsAnImage device → ForSome device.contents (λ files. files ≡ x) → IsAllSynced device → Shows (λ files. files ≡ x) device
shows_is device x tells read synced = by_contents device.contents refl
  where
    by_contents : (contents : Option Files) → device.contents ≡ contents → Shows (λ files. files ≡ x) device
    by_contents None none = shows_silent (λ files. files ≡ x) device tells none
    by_contents (Some final) there = record {
      read = read;
      left = leaves_map (λ left. left ≡ final) (λ files. files ≡ x) device.moments (λ left is. is ∙ read final there) (synced final there);
    }

-- what is told after a change that forgets what was
pub told_is : (o after : Option Files) (x : Files) → after ≡ option_map (λ files. x) o → ForSome after (λ files. files ≡ x)
told_is o after x is = λ files there. (told_back o after (λ before. x) files is there).2

module _ (change : RedoView) (from : Files) (is : IsOpened change from) (mid new : Device) (tells : TellsAnImage mid) (shows : Shows (λ files. files ≡ changed change from) mid)
    (keeps : Keeps (IsAtGate (changed change from)) mid new) where
  -- the gate is about to be closed
  pub at_gate : Shows (IsAtGate (changed change from)) mid
  at_gate = shows_map (λ files. files ≡ changed change from) (IsAtGate (changed change from)) mid (λ files same. subst (IsAtGate (changed change from)) (sym same) (at_gate_refl (changed change from))) shows

  -- and then it is being closed
  pub closing_gate : Shows (IsClosing change from) new
  closing_gate = shows_map (IsAtGate (changed change from)) (IsClosing change from) new (λ files at. inr (at_gate_written 0 (changed change from) files (done_some change from is) at)) (keeps.shows at_gate)

  -- at each moment the change is there
  pub closing_run : Runs (ReplaysTo (changed change from)) mid.moments new.moments
  closing_run = runs-weaken (IsAtGate (changed change from)) (ReplaysTo (changed change from)) (closing_gate_replays change from is) mid.moments new.moments (keeps.run at_gate)

  -- once it is synced, all is
  pub closing_synced : (old : Option Files) → mid.contents ≡ option_map (λ files. changed change from) old → new.contents ≡ option_map (written Jnl 0 (0 ∷ [])) mid.contents
      → ForSome mid.contents (λ files. LeavesNow (λ left. left Jnl ≡ written Jnl 0 (0 ∷ []) files Jnl) new.moments) → IsAllSynced new
  closing_synced old mid_is new_is durable = λ final there.
      let back = told_back mid.contents new.contents (written Jnl 0 (0 ∷ [])) final new_is there in
      let was : back.0 ≡ changed change from = told_is old mid.contents (changed change from) mid_is back.0 back.1 in
      let final_is : final ≡ closed change from = back.2 ∙ ap (written Jnl 0 (0 ∷ [])) was in
      leaves_both (IsAtGate (changed change from)) (λ left. left Jnl ≡ written Jnl 0 (0 ∷ []) back.0 Jnl) (λ left. left ≡ final) new.moments
      (λ left at jnl. closed_from change from is left at (jnl ∙ ap (λ (x : Files). written Jnl 0 (0 ∷ []) x Jnl) was) ∙ sym final_is)
      (keeps.shows at_gate).left (durable back.0 back.1)

-- there is a first byte in the journal once the change is done
pub gate_room : (change : RedoView) (o after : Option Files) → (o ≡ None → after ≡ None) → ForSome o (IsUnderWay change) → ((from : Files) → IsOpened change from → version_of from ≡ Two → ForSome o (IsGoing change from) → after ≡ option_map (λ files. changed change from) o)
    → ForSome after (λ files. 1 ≤ length (files Jnl))
gate_room change None after silent going told = λ files there. absurd (never files (sym (silent refl) ∙ there))
  where
    never : (files : Files) → None ≡ Some files → ⊥
    never files is = cc
gate_room change (Some now) after silent going told = λ files there.
    let under = going now refl in
    let is = told_is (Some now) after (changed change under.from) (told under.from under.is under.two (only_told (Some now) now (IsGoing change under.from) refl under.way)) files there in
    subst (λ (x : Files). 1 ≤ length (x Jnl)) (sym is) (done_some change under.from under.is)
