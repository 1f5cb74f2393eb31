-- The targets of a packer, as they show themselves.
use Rattle.std.proofs.Common.{◌≡◌, ℕ, zero, suc, ◌<◌, ◌≤◌, List, [], ◌∷◌, ◌++◌, All, get_or, length, map, Option, Some, None, refl, sym, ap, ◌∙◌, arith}
use Rattle.std.specs.Prelude.{IfErr, IfOk, IsSome, Result, Ok, Err}
use Rattle.std.specs.Option.{option_map}
use Rattle.std.proofs.lemmas.List.{get_or-map, length-map, map_push}
use Rattle.std.proofs.lemmas.List.Elements.{All-cons, All-head, All-tail}
use Rattle.jb_base.specs.declared.user.User.{User}
use Rattle.jb_disk.specs.Device.{Device}
use Rattle.jb_server.specs.Backups.{HasTargets}
use Rattle.jb_server.specs.Laws.{BackupsAreOfRings}
use Rattle.jb_server.specs.Packers.{Backup, PackerState}
use Rattle.jb_server.specs.Rounds.{Rung, RungsRun}
use Rattle.jb_shared.specs.Passes.{PassView}
use Rattle.jb_run.specs.Backed.{AreBackedUp, ShowTargets, all_there, none_of, packer_at}

-- of a result, what holds of its value, or of its error, and what follows
pub ok_then : {A B : Type 0} (result : Result A B) (P Q : A → Type 0) → ((x : A) → P x → Q x) → IfOk result P → IfOk result Q
ok_then (Ok x) P Q then holds = then x holds
ok_then (Err error) P Q then holds = holds

pub err_then : {A B : Type 0} (result : Result A B) (P Q : B → Type 0) → ((x : B) → P x → Q x) → IfErr result P → IfErr result Q
err_then (Ok x) P Q then holds = holds
err_then (Err error) P Q then holds = then error holds

-- what comes of a backup that was not tried
abbrev no_backup : Backup
no_backup = None

-- where a backup onto each was not tried, it was not onto as many
none_same : {T U : Type 0} (f : T → U) (targets : List T) → map (λ (_ : U). no_backup) (map f targets) ≡ map (λ (_ : T). no_backup) targets
none_same f [] = refl
none_same f (target ∷ targets) = ap (λ (l : List Backup). None ∷ l) (none_same f targets)

-- the same devices
pub same_devices : (one other : List Device) → all_there one ≡ all_there other → one ≡ other
same_devices [] [] same = refl
same_devices [] (d ∷ other) same = absurd (let no : ⊥ = cc in no)
same_devices (d ∷ one) [] same = absurd (let no : ⊥ = cc in no)
same_devices (d ∷ one) (e ∷ other) same =
    let first : d ≡ e = cc in
    let rest : all_there one ≡ all_there other = cc in
    ap (λ (x : Device). x ∷ one) first ∙ ap (λ (l : List Device). e ∷ l) (same_devices one other rest)

module _ {E : Type 0} (device : E → Device) where
  -- what targets show that are there
  abbrev pub devices_of : List (Option E) → List Device
  devices_of [] = []
  devices_of (None ∷ targets) = devices_of targets
  devices_of (Some target ∷ targets) = device target ∷ devices_of targets

  none_there : IsSome {T = E} None → ⊥
  none_there is = cc

  -- where all are there, that is all
  pub shows_all : (targets : List (Option E)) → All IsSome targets → ShowTargets device targets (devices_of targets)
  shows_all [] there = refl
  shows_all (None ∷ targets) there = absurd (none_there (All-head IsSome None targets there))
  shows_all (Some target ∷ targets) there = ap (λ (l : List (Option Device)). Some (device target) ∷ l) (shows_all targets (All-tail IsSome (Some target) targets there))

  -- they are as many
  pub as_many : (targets : List (Option E)) (devices : List Device) → ShowTargets device targets devices → length devices ≡ length targets
  as_many targets devices shows = sym (length-map devices (λ d. Some d)) ∙ ap length (sym shows) ∙ length-map targets (option_map device)

  -- none of these was tried
  pub none_shown : (targets : List (Option E)) (devices : List Device) → ShowTargets device targets devices → map (λ (_ : Option E). no_backup) targets ≡ none_of devices
  none_shown targets devices shows =
      sym (none_same (option_map device) targets) ∙ ap (map (λ (_ : Option Device). no_backup)) shows ∙ none_same (λ (d : Device). Some d) devices

  -- a packer has them, where none was tried
  pub has_targets : (targets : List (Option E)) (backups : List Backup) → backups ≡ map (λ _. no_backup) targets → All IsSome targets → HasTargets targets backups
  has_targets targets backups untried there = record { count = ap length untried ∙ length-map targets (λ (_ : Option E). no_backup); there = there }

  -- nor was one more
  pub untried_more : (targets : List (Option E)) (backups : List Backup) (target : Option E) → backups ≡ map (λ _. no_backup) targets
      → backups ++ no_backup ∷ [] ≡ map (λ _. no_backup) (targets ++ target ∷ [])
  untried_more targets backups target is = ap (λ (l : List Backup). l ++ no_backup ∷ []) is ∙ sym (map_push (λ (_ : Option E). no_backup) targets target)

  -- one target more
  pub shows_more : (targets : List (Option E)) (target : E) (devices : List Device) → ShowTargets device targets devices
      → ShowTargets device (targets ++ Some target ∷ []) (devices ++ device target ∷ [])
  shows_more targets target devices shows =
      map_push (option_map device) targets (Some target) ∙ ap (λ (l : List (Option Device)). l ++ Some (device target) ∷ []) shows
      ∙ sym (map_push (λ (d : Device). Some d) devices (device target))

  -- what is shown with one target more behind
  pub devices_push : (targets : List (Option E)) (target : E) → devices_of (targets ++ Some target ∷ []) ≡ devices_of targets ++ device target ∷ []
  devices_push [] target = refl
  devices_push (None ∷ targets) target = devices_push targets target
  devices_push (Some other ∷ targets) target = ap (λ (l : List Device). device other ∷ l) (devices_push targets target)

  -- all are there that show themselves
  pub are_there : (targets : List (Option E)) (devices : List Device) → ShowTargets device targets devices → All IsSome targets
  are_there [] devices shows = λ k absent within. absurd (omega (arith, within))
  are_there (None ∷ targets) [] shows = absurd (let no : ⊥ = cc in no)
  are_there (None ∷ targets) (d ∷ devices) shows = absurd (let no : ⊥ = cc in no)
  are_there (Some target ∷ targets) [] shows = absurd (let no : ⊥ = cc in no)
  are_there (Some target ∷ targets) (d ∷ devices) shows =
      let rest : ShowTargets device targets devices = cc in
      All-cons IsSome (Some target) targets refl (are_there targets devices rest)

-- the target at a place
there_at : (devices : List Device) (k : ℕ) (device : Device) → k < length devices → get_or (all_there devices) k None ≡ Some (get_or devices k device)
there_at devices k device within = get_or-map (λ (d : Device). Some d) devices k device None within

-- was not tried yet
untried_at : (devices : List Device) (k : ℕ) → get_or (none_of devices) k None ≡ no_backup
untried_at [] k = refl
untried_at (device ∷ devices) zero = refl
untried_at (device ∷ devices) (suc k) = untried_at devices k

-- of rings that came to a packer whose targets were not tried
pub all_backed_up : BackupsAreOfRings → (user : User) (rungs : List Rung) (to : PackerState) (readings : Option (List ℕ)) (passes : List PassView) (devices : List Device)
    → RungsRun user (packer_at readings passes devices (none_of devices)) rungs to → length devices ≤ length passes
    → AreBackedUp devices rungs (packer_at readings passes devices (none_of devices)) to
all_backed_up law user rungs to readings passes devices run few k device within =
    law user rungs (packer_at readings passes devices (none_of devices)) to k (get_or devices k device) run
    (length-map devices (λ _. no_backup) ∙ sym (length-map devices (λ (d : Device). Some d))) (omega (arith, within, few))
    (there_at devices k device within) (untried_at devices k)
