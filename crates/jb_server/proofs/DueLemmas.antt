-- Which targets are due, and what becomes of a packer as one is backed up.
use Rattle.std.proofs.Common.{◌≡◌, ◌⊎◌, ℕ, ◌+◌, ◌-◌, ◌<◌, ◌≤◌, true, false, List, length, get_or, set, map, Option, Some, None, is_some, Result, inl, inr, refl, sym, ◌∙◌, ap, subst, arith}
use Rattle.std.proofs.Math.ListN.{get_or-map}
use Rattle.std.proofs.lemmas.Bool.{cases_lt}
use Rattle.std.proofs.lemmas.List.{get_or_default, get_or_past, map-set}
use Rattle.std.specs.Option.{option_map}
use Rattle.jb_backup.specs.declared.error.BackupError.{BackupError}
use Rattle.jb_disk.specs.Device.{Device}
use Rattle.jb_shared.specs.Passes.{PassView}
use Rattle.jb_shared.specs.declared.backed.Backed.{Backed}
use Rattle.jb_server.specs.Backups.{BacksUpDue, BacksUpOn, BacksUpOnce, due, due_at}
use Rattle.jb_server.specs.Packers.{Backup, PackerState, packer_with}
use Rattle.jb_server.proofs.RingRuns.{on_pass}

-- no target is not due
due_none : {T : Type 0} (target : Option T) (backup : Backup) → target ≡ None → due target backup ≡ None
due_none target None none = none
due_none target (Some result) none = refl

-- behind the last target none is due
due_past : {T : Type 0} (k : ℕ) (targets : List (Option T)) (backups : List Backup) → length targets ≤ k → is_some (due_at k targets backups) ≡ false
due_past {T} k targets backups past =
    ap (λ (w : Option T). is_some w) (due_none (get_or targets k None) (get_or backups k None) (get_or_past targets k None past))

-- what is due lies among the targets
within_due : {T : Type 0} (k : ℕ) (targets : List (Option T)) (backups : List Backup) → is_some (due_at k targets backups) ≡ true → k < length targets
within_due {T} k targets backups some = by (cases_lt k (length targets))
  where
    by : (k < length targets) ⊎ (length targets ≤ k) → k < length targets
    by (inl within) = within
    by (inr past) = let none = due_past k targets backups past in let no : ⊥ = cc in absurd no

-- what is due is the target
due_is : {T : Type 0} (target : Option T) (backup : Backup) → is_some (due target backup) ≡ true → due target backup ≡ target
due_is target None some = refl
due_is target (Some result) some = let no : ⊥ = cc in absurd no

-- what is due of devices is the device of what is due
due_map : {E : Type 0} (device : E → Device) (target : Option E) (backup : Backup) → due (option_map device target) backup ≡ option_map device (due target backup)
due_map device target None = refl
due_map device target (Some result) = refl

due_shown : {E : Type 0} (device : E → Device) (k : ℕ) (targets : List (Option E)) (backups : List Backup)
    → due_at k (map (option_map device) targets) backups ≡ option_map device (due_at k targets backups)
due_shown {E} device k targets backups =
    ap (λ (w : Option Device). due w (get_or backups k None)) (get_or-map (option_map device) targets k None)
    ∙ due_map device (get_or targets k None) (get_or backups k None)

module _ {E : Type 0} (device : E → Device) (readings : Option (List ℕ)) (passes : List PassView) (targets : List (Option E)) (backups : List Backup) where
  -- the packer as it is
  abbrev was : PackerState
  was = packer_with device readings passes targets backups

  -- the target that is due was backed up onto
  backs_onto : (number k : ℕ) (before absent after : PassView) (onto left : Option E) (result : Result Backed BackupError) → number ≡ k + 1 → k < length passes
      → before ≡ get_or passes k absent → BacksUpOn (option_map device onto) (option_map device left) before.known after.known result
      → BacksUpDue number (option_map device onto) was (packer_with device readings (set passes k after) (set targets k left) (set backups k (Some result)))
  backs_onto number k before absent after None left result is within found backs = absurd backs
  backs_onto number k before absent after (Some onto) None result is within found backs = absurd backs
  backs_onto number k before absent after (Some onto) (Some left) result is within found backs =
      let at : number - 1 ≡ k = omega (arith, is) in
      record {
        result = result;
        left = device left;
        backs = on_pass _ number k passes before absent after is within found backs;
        readings = refl;
        targets = map-set (option_map device) targets k (Some left) ∙ ap (λ (j : ℕ). set (map (option_map device) targets) j (Some (device left))) (sym at);
        backups = ap (λ (j : ℕ). set backups j (Some result)) (sym at);
      }

  pub backs_once : (number k : ℕ) (before absent after : PassView) (onto left : Option E) (result : Result Backed BackupError) → number ≡ k + 1 → k < length passes
      → is_some (due_at k targets backups) ≡ true → before ≡ get_or passes k absent → onto ≡ get_or targets k onto
      → BacksUpOn (option_map device onto) (option_map device left) before.known after.known result
      → BacksUpOnce number was (packer_with device readings (set passes k after) (set targets k left) (set backups k (Some result)))
  backs_once number k before absent after onto left result is within some found taken backs =
      let new = packer_with device readings (set passes k after) (set targets k left) (set backups k (Some result)) in
      let at : number - 1 ≡ k = omega (arith, is) in
      let inside = within_due k targets backups some in
      let here : due_at k targets backups ≡ onto =
      due_is (get_or targets k None) (get_or backups k None) some ∙ get_or_default targets k None onto inside ∙ sym taken in
      let owed : due_at (number - 1) was.targets was.backups ≡ option_map device onto =
      ap (λ (j : ℕ). due_at j was.targets was.backups) at ∙ due_shown device k targets backups ∙ ap (option_map device) here in
      subst (λ (w : Option Device). BacksUpDue number w was new) (sym owed) (backs_onto number k before absent after onto left result is within found backs)
