-- The backups of a packer, through its rings.
use Rattle.std.proofs.Common.{◌≡◌, ◌≢◌, ◌⊎◌, ℕ, zero, suc, ◌+◌, ◌-◌, ◌<◌, Bool, List, [], ◌∷◌, ◌++◌, length, get_or, set, Contains, Option, Some, None, Result, Ok, Err, inl, inr, refl, sym, ◌∙◌, ap, subst, append_assoc, append-nil, arith}
use Rattle.std.proofs.lemmas.Bool.{cases_eq}
use Rattle.std.proofs.lemmas.List.{get_or-set_other, get_or-set_same, get_or_default, length-set}
use Rattle.jb_backup.specs.declared.error.BackupError.{BackupError}
use Rattle.jb_base.specs.declared.user.User.{User}
use Rattle.jb_disk.specs.Device.{Device}
use Rattle.jb_model.specs.declared.command.Command.{Command}
use Rattle.jb_model.specs.declared.entry.Entry.{Entry}
use Rattle.jb_model.specs.declared.entry.Entry.TheVariants.{Reopened}
use Rattle.jb_model.specs.declared.entry.Outcome.{Outcome}
use Rattle.jb_model.specs.declared.reply.Reply.{Reply}
use Rattle.jb_shared.specs.Backups.{BacksUp}
use Rattle.jb_shared.specs.Calls.{Answers, Calls, IsStoppedCall, Runs, call_of, ending, recording}
use Rattle.jb_shared.specs.Passes.{Known, PassView, refusing, seen, stepping}
use Rattle.jb_shared.specs.declared.backed.Backed.{Backed}
use Rattle.jb_shared.specs.declared.error.SharedError.{SharedError}
use Rattle.jb_shared.specs.declared.error.SharedError.TheVariants.{OutOfMemory, RunSpent, StoreFault}
use Rattle.jb_shared.specs.declared.refusal.Refusal.{Refusal}
use Rattle.jb_turn.specs.Rows.{Begins}
use Rattle.jb_server.specs.Backups.{BacksUpDue, BacksUpOnto, due, due_at}
use Rattle.jb_server.specs.Laws.{BackupsAreOfRings, IsBackedUp, IsNotBackedUp}
use Rattle.jb_server.specs.Packers.{Backup, OnPass, PackerState}
use Rattle.jb_server.specs.Rounds.{AnswersRing, Came, PacksArea, Rung, RungsRun, ring_numbers}

begins_itself : {A : Type 0} (xs : List A) → Begins xs xs
begins_itself xs = ([], sym (append-nil xs))

begins_on : {A : Type 0} (xs ys zs : List A) → Begins xs ys → Begins ys zs → Begins xs zs
begins_on xs ys zs (more, is) (rest, are) = (more ++ rest, are ∙ ap (λ l. l ++ rest) is ∙ append_assoc xs more rest)

-- what a pass knows goes on: it knows the same opening, and has seen as much of the history or more
pub record GoesOn (old new : Known) : Type 0 where
  pub opening : new.opening ≡ old.opening
  pub grows : Begins old.front new.front

goes_still : (known : Known) → GoesOn known known
goes_still known = record { opening = refl; grows = begins_itself known.front }

goes_same : (old new : Known) → new ≡ old → GoesOn old new
goes_same old new same = subst (λ (w : Known). GoesOn old w) (sym same) (goes_still old)

goes_further : (old mid new : Known) → GoesOn old mid → GoesOn mid new → GoesOn old new
goes_further old mid new one two = record {
  opening = two.opening ∙ one.opening;
  grows = begins_on old.front mid.front new.front one.grows two.grows;
}

-- turns that leave no entry
goes_stepping : (known : Known) (steps : List Refusal) → GoesOn known (stepping known steps)
goes_stepping known [] = goes_still known
goes_stepping known (step ∷ steps) =
    let one : GoesOn known (refusing known step) = record { opening = refl; grows = begins_itself known.front } in
    goes_further known (refusing known step) (stepping (refusing known step) steps) one (goes_stepping (refusing known step) steps)

-- a doubt that ends
goes_ending : (known : Known) (end : Option Bool) → GoesOn known (ending known end)
goes_ending known None = record { opening = refl; grows = begins_itself known.front }
goes_ending known (Some stands) = record { opening = refl; grows = (Reopened stands ∷ [], refl) }

-- a call that is recorded
goes_recording : (old new : Known) (call : Entry) → new ≡ recording old call → GoesOn old new
goes_recording old new call is =
    subst (λ (w : Known). GoesOn old w) (sym is) (record { opening = refl; grows = (call ∷ [], refl) })

goes_refusing : (old new : Known) (refusal : Refusal) → new ≡ refusing old refusal → GoesOn old new
goes_refusing old new refusal is =
    subst (λ (w : Known). GoesOn old w) (sym is) (record { opening = refl; grows = begins_itself old.front })

goes_running : (old new : Known) (call : Outcome → Entry) (result : Result Reply SharedError) → Runs old new call result → GoesOn old new
goes_running old new call (Ok reply) runs = goes_recording old new _ runs
goes_running old new call (Err StoreFault) runs = goes_recording old new _ runs.1
goes_running old new call (Err OutOfMemory) runs = goes_same old new runs
goes_running old new call (Err RunSpent) runs = absurd runs

goes_stopped : (old new : Known) (user : User) (moment : ℕ) (command : Command) → IsStoppedCall old new user moment command → GoesOn old new
goes_stopped old new user moment command (inl stopped) =
    goes_further old (ending old stopped.0) new (goes_ending old stopped.0) (goes_recording (ending old stopped.0) new _ stopped.2)
goes_stopped old new user moment command (inr stopped) = goes_recording old new _ stopped.1

goes_ended : (old new : Known) (call : Outcome → Entry) (result : Result Reply SharedError) (end : Option Bool) → Runs (ending old end) new call result → GoesOn old new
goes_ended old new call result end runs = goes_further old (ending old end) new (goes_ending old end) (goes_running (ending old end) new call result runs)

goes_answered : (old new : Known) (user : User) (moment : ℕ) (command : Command) (result : Result Reply SharedError) → Answers old new user moment command result
    → GoesOn old new
goes_answered old new user moment command (Ok reply) answers = goes_ended old new (call_of old.node old.mine user moment command) (Ok reply) answers.1.0 answers.1.1
goes_answered old new user moment command (Err StoreFault) answers = goes_stopped old new user moment command answers.1
goes_answered old new user moment command (Err OutOfMemory) answers = goes_ended old new (call_of old.node old.mine user moment command) (Err OutOfMemory) answers.1.0 answers.1.1
goes_answered old new user moment command (Err RunSpent) answers = goes_refusing old new _ answers.1

-- a call
goes_calling : (old new : Known) (user : User) (moment : ℕ) (command : Command) (result : Result Reply SharedError) → Calls old new user moment command result → GoesOn old new
goes_calling old new user moment command result calls =
    let mid = stepping old calls.steps in
    let asks = calls.asks in
    let took : GoesOn mid (seen mid asks.taken) = record { opening = refl; grows = asks.grows } in
    goes_further old mid new (goes_stepping old calls.steps)
    (goes_further mid (seen mid asks.taken) new took (goes_answered (seen mid asks.taken) new user moment command result asks.answers))

-- a backup
goes_backing : (old new : Known) (target left : Device) (result : Result Backed BackupError) → BacksUp old new target left result → GoesOn old new
goes_backing old new target left result backs =
    let took = backs.taken in
    subst (λ (w : Known). GoesOn old w) (sym took.2) (record { opening = refl; grows = took.1 })

-- what the pass at a place knows
abbrev known_at : PackerState → ℕ → PassView → Known
known_at state k pass = (get_or state.node.passes k pass).known

-- through something the pass at a place goes on
pub record PassGoesOn (k : ℕ) (old new : PackerState) : Type 0 where
  pub count : length new.node.passes ≡ length old.node.passes
  pub goes : (pass : PassView) → GoesOn (known_at old k pass) (known_at new k pass)

pass_still : (k : ℕ) (old new : PackerState) → new ≡ old → PassGoesOn k old new
pass_still k old new same = subst (λ (w : PackerState). PassGoesOn k old w) (sym same) (record { count = refl; goes = λ pass. goes_still (known_at old k pass) })

pass_further : (k : ℕ) (old mid new : PackerState) → PassGoesOn k old mid → PassGoesOn k mid new → PassGoesOn k old new
pass_further k old mid new one two = record {
  count = two.count ∙ one.count;
  goes = λ pass. goes_further (known_at old k pass) (known_at mid k pass) (known_at new k pass) (one.goes pass) (two.goes pass);
}

-- of what happens on a pass, that it goes on is enough
pass_on : (happens : Known → Known → Type 0) (number k : ℕ) (old new : PackerState) → ((a b : Known) → happens a b → GoesOn a b)
    → OnPass number happens old.node.passes new.node.passes → PassGoesOn k old new
pass_on happens number k old new each on = record {
  count = on.count;
  goes = λ pass. by pass (cases_eq (k + 1) number);
}
  where
    by : (pass : PassView) → ((k + 1 ≡ number) ⊎ (k + 1 ≡ number → ⊥)) → GoesOn (known_at old k pass) (known_at new k pass)
    by pass (inl same) =
        let at : number - 1 ≡ k = omega (arith, same) in
        subst (λ (j : ℕ). GoesOn (known_at old j pass) (known_at new j pass)) at (each _ _ (on.does pass))
    by pass (inr other) = goes_same (known_at old k pass) (known_at new k pass) (ap (λ (p : PassView). p.known) (on.others k pass other))

pass_packs : (user : User) (number k : ℕ) (answer : Result Reply SharedError) (old new : PackerState) → PacksArea user number answer old new → PassGoesOn k old new
pass_packs user number k answer old new packs = pass_on _ number k old new (λ a b asks. goes_calling a b user asks.0 _ answer asks.2) packs.asks

pass_onto : (number k : ℕ) (target : Device) (old new : PackerState) → BacksUpOnto number target old new → PassGoesOn k old new
pass_onto number k target old new onto = pass_on _ number k old new (λ a b backs. goes_backing a b target onto.left onto.result backs) onto.backs

pass_due : (number k : ℕ) (target : Option Device) (old new : PackerState) → BacksUpDue number target old new → PassGoesOn k old new
pass_due number k None old new same = pass_still k old new same
pass_due number k (Some target) old new onto = pass_onto number k target old new onto

pass_ring : (user : User) (number k : ℕ) (came : Came) (old new : PackerState) → AnswersRing user number came old new → PassGoesOn k old new
pass_ring user number k None old new answers = pass_still k old new answers.1
pass_ring user number k (Some answer) old new answers =
    pass_further k old answers.0 new (pass_packs user number k answer old answers.0 answers.1) (pass_due number k _ answers.0 new answers.2)

pass_rings : (user : User) (k : ℕ) (from : PackerState) (rungs : List Rung) (to : PackerState) → RungsRun user from rungs to → PassGoesOn k from to
pass_rings user k from [] to run = pass_still k from to run
pass_rings user k from (rung ∷ rungs) to run =
    pass_further k from run.0 to (pass_ring user rung.number k rung.came from run.0 run.1) (pass_rings user k run.0 rungs to run.2)

-- the target at a place, and what came of its backup
abbrev target_at : PackerState → ℕ → Option Device
target_at state k = get_or state.targets k None

abbrev backup_at : PackerState → ℕ → Backup
backup_at state k = get_or state.backups k None

-- these stay at a place, and there are as many as before
pub record PlaceStays (k : ℕ) (old new : PackerState) : Type 0 where
  pub targets : length new.targets ≡ length old.targets
  pub backups : length new.backups ≡ length old.backups
  pub target : target_at new k ≡ target_at old k
  pub backup : backup_at new k ≡ backup_at old k

place_still : (k : ℕ) (old new : PackerState) → new ≡ old → PlaceStays k old new
place_still k old new same =
    subst (λ (w : PackerState). PlaceStays k old w) (sym same) (record { targets = refl; backups = refl; target = refl; backup = refl })

place_further : (k : ℕ) (old mid new : PackerState) → PlaceStays k old mid → PlaceStays k mid new → PlaceStays k old new
place_further k old mid new one two = record {
  targets = two.targets ∙ one.targets;
  backups = two.backups ∙ one.backups;
  target = two.target ∙ one.target;
  backup = two.backup ∙ one.backup;
}

place_packs : (user : User) (number k : ℕ) (answer : Result Reply SharedError) (old new : PackerState) → PacksArea user number answer old new → PlaceStays k old new
place_packs user number k answer old new packs = record {
  targets = ap (λ (l : List (Option Device)). length l) packs.targets;
  backups = ap (λ (l : List Backup). length l) packs.backups;
  target = ap (λ (l : List (Option Device)). get_or l k None) packs.targets;
  backup = ap (λ (l : List Backup). get_or l k None) packs.backups;
}

-- a backup at another place
place_onto : (number k : ℕ) (target : Device) (old new : PackerState) → BacksUpOnto number target old new → (k + 1 ≡ number → ⊥) → PlaceStays k old new
place_onto number k target old new onto other =
    let some = onto.backs.some in
    let apart : k ≢ number - 1 = λ same. other (omega (arith, same, some)) in
    record {
      targets = ap (λ (l : List (Option Device)). length l) onto.targets ∙ length-set old.targets (number - 1) (Some onto.left);
      backups = ap (λ (l : List Backup). length l) onto.backups ∙ length-set old.backups (number - 1) (Some onto.result);
      target = ap (λ (l : List (Option Device)). get_or l k None) onto.targets ∙ get_or-set_other old.targets (number - 1) k (Some onto.left) None apart;
      backup = ap (λ (l : List Backup). get_or l k None) onto.backups ∙ get_or-set_other old.backups (number - 1) k (Some onto.result) None apart;
    }

place_due : (number k : ℕ) (target : Option Device) (old new : PackerState) → BacksUpDue number target old new → (k + 1 ≡ number → ⊥) → PlaceStays k old new
place_due number k None old new same other = place_still k old new same
place_due number k (Some target) old new onto other = place_onto number k target old new onto other

-- a ring for another area
place_other : (user : User) (number k : ℕ) (came : Came) (old new : PackerState) → AnswersRing user number came old new → (k + 1 ≡ number → ⊥) → PlaceStays k old new
place_other user number k None old new answers other = place_still k old new answers.1
place_other user number k (Some answer) old new answers other =
    place_further k old answers.0 new (place_packs user number k answer old answers.0 answers.1) (place_due number k _ answers.0 new answers.2 other)

-- a target whose backup was tried is not due
due_no_more : (target : Option Device) (backup : Backup) (result : Result Backed BackupError) → backup ≡ Some result → due target backup ≡ None
due_no_more target backup result tried = ap (λ (w : Backup). due target w) tried

-- a ring for an area whose backup was tried
place_tried : (user : User) (number k : ℕ) (answer : Result Reply SharedError) (old new : PackerState) (result : Result Backed BackupError)
    → AnswersRing user number (Some answer) old new → k + 1 ≡ number → backup_at old k ≡ Some result → PlaceStays k old new
place_tried user number k answer old new result answers same tried =
    let packed = answers.0 in
    let stays = place_packs user number k answer old packed answers.1 in
    let at : number - 1 ≡ k = omega (arith, same) in
    let there : backup_at packed (number - 1) ≡ Some result = ap (λ (j : ℕ). backup_at packed j) at ∙ stays.backup ∙ tried in
    let over : due_at (number - 1) packed.targets packed.backups ≡ None = due_no_more (target_at packed (number - 1)) (backup_at packed (number - 1)) result there in
    place_further k old packed new stays (place_still k packed new (subst (λ (w : Option Device). BacksUpDue number w packed new) over answers.2))

-- any ring, where the backup at a place was tried
place_ring : (user : User) (number k : ℕ) (came : Came) (old new : PackerState) (result : Result Backed BackupError)
    → AnswersRing user number came old new → backup_at old k ≡ Some result → PlaceStays k old new
place_ring user number k None old new result answers tried = place_still k old new answers.1
place_ring user number k (Some answer) old new result answers tried = by (cases_eq (k + 1) number)
  where
    by : ((k + 1 ≡ number) ⊎ (k + 1 ≡ number → ⊥)) → PlaceStays k old new
    by (inl same) = place_tried user number k answer old new result answers same tried
    by (inr other) = place_other user number k (Some answer) old new answers other

place_rings : (user : User) (k : ℕ) (from : PackerState) (rungs : List Rung) (to : PackerState) (result : Result Backed BackupError)
    → RungsRun user from rungs to → backup_at from k ≡ Some result → PlaceStays k from to
place_rings user k from [] to result run tried = place_still k from to run
place_rings user k from (rung ∷ rungs) to result run tried =
    let one = place_ring user rung.number k rung.came from run.0 result run.1 tried in
    place_further k from run.0 to one (place_rings user k run.0 rungs to result run.2 (one.backup ∙ tried))

-- a pass of no area
nobody : PassView
nobody = record {
  area = None;
  known = record { node = 0; opening = None; front = []; mine = []; refused = []; shown = []; looks = []; barred = 0 };
}

-- through a ring for it the area at a place was backed up for the first time
pub record BacksUpFirst (k : ℕ) (first : Device) (old new : PackerState) : Type 0 where
  pub before : Known
  pub after : Known
  pub left : Device
  pub result : Result Backed BackupError
  pub opening : (pass : PassView) → before.opening ≡ (known_at old k pass).opening
  pub begins : (pass : PassView) → Begins (known_at old k pass).front before.front
  pub backs : BacksUp before after first left result
  pub ends : (pass : PassView) → known_at new k pass ≡ after
  pub target : target_at new k ≡ Some left
  pub backup : backup_at new k ≡ Some result

-- the target at a place lies among the targets
within_targets : (targets : List (Option Device)) (k : ℕ) (first : Device) → get_or targets k None ≡ Some first → k < length targets
within_targets [] k first is = let no : ⊥ = cc in absurd no
within_targets (target ∷ targets) zero first is = omega arith
within_targets (target ∷ targets) (suc k) first is = omega (arith, within_targets targets k first is)

-- a target whose backup was not tried is due
due_first : (target : Option Device) (backup : Backup) (first : Device) → target ≡ Some first → backup ≡ None → due target backup ≡ Some first
due_first target backup first is untried = ap (λ (w : Backup). due target w) untried ∙ is

-- what a pass within the list knows, whatever would stand in its place
known_any : (state : PackerState) (k : ℕ) (one other : PassView) → k < length state.node.passes → known_at state k one ≡ known_at state k other
known_any state k one other within = ap (λ (p : PassView). p.known) (get_or_default state.node.passes k one other within)

-- what is set at a place is there
set_at_number : {T : Type 0} (xs : List T) (number k : ℕ) (x d : T) → number - 1 ≡ k → k < length xs → get_or (set xs (number - 1) x) k d ≡ x
set_at_number xs number k x d at within =
    ap (λ (j : ℕ). get_or (set xs j x) k d) at ∙ get_or-set_same xs k x d within

-- the first ring for an area
backs_first : (user : User) (number k : ℕ) (answer : Result Reply SharedError) (old new : PackerState) (first : Device)
    → AnswersRing user number (Some answer) old new → k + 1 ≡ number → length old.backups ≡ length old.targets → k < length old.node.passes
    → target_at old k ≡ Some first → backup_at old k ≡ None → BacksUpFirst k first old new
backs_first user number k answer old new first answers same count within is untried =
    let packed = answers.0 in
    let stays = place_packs user number k answer old packed answers.1 in
    let goes = pass_packs user number k answer old packed answers.1 in
    let at : number - 1 ≡ k = omega (arith, same) in
    let there : target_at packed (number - 1) ≡ Some first = ap (λ (j : ℕ). target_at packed j) at ∙ stays.target ∙ is in
    let never : backup_at packed (number - 1) ≡ None = ap (λ (j : ℕ). backup_at packed j) at ∙ stays.backup ∙ untried in
    let now : due_at (number - 1) packed.targets packed.backups ≡ Some first =
    due_first (target_at packed (number - 1)) (backup_at packed (number - 1)) first there never in
    let onto : BacksUpOnto number first packed new = subst (λ (w : Option Device). BacksUpDue number w packed new) now answers.2 in
    let in_old : k < length old.targets = within_targets old.targets k first is in
    let in_targets : k < length packed.targets = omega (arith, in_old, stays.targets) in
    let in_backups : k < length packed.backups = omega (arith, in_old, count, stays.backups) in
    let in_packed : k < length packed.node.passes = omega (arith, within, goes.count) in
    let in_new : k < length new.node.passes = omega (arith, in_packed, onto.backs.count) in
    let was : (pass : PassView) → known_at packed (number - 1) nobody ≡ known_at packed k pass =
    λ pass. ap (λ (j : ℕ). known_at packed j nobody) at ∙ known_any packed k nobody pass in_packed in
    let is_now : (pass : PassView) → known_at new k pass ≡ known_at new (number - 1) nobody =
    λ pass. known_any new k pass nobody in_new ∙ ap (λ (j : ℕ). known_at new j nobody) (sym at) in
    record {
      before = known_at packed (number - 1) nobody;
      after = known_at new (number - 1) nobody;
      left = onto.left;
      result = onto.result;
      opening = λ pass. ap (λ (known : Known). known.opening) (was pass) ∙ (goes.goes pass).opening;
      begins = λ pass. subst (λ (known : Known). Begins (known_at old k pass).front known.front) (sym (was pass)) (goes.goes pass).grows;
      backs = onto.backs.does nobody;
      ends = is_now;
      target = ap (λ (l : List (Option Device)). get_or l k None) onto.targets ∙ set_at_number packed.targets number k (Some onto.left) None at in_targets;
      backup = ap (λ (l : List Backup). get_or l k None) onto.backups ∙ set_at_number packed.backups number k (Some onto.result) None at in_backups;
    }

-- a ring before others
rung_before : (rung : Rung) (rungs : List Rung) (number : ℕ) → Contains (ring_numbers rungs) number → Contains (ring_numbers (rung ∷ rungs)) number
rung_before rung rungs number (j, lt, is) = (suc j, omega (arith, lt), is)

-- that one for another area
unrung_before : (rung : Rung) (rungs : List Rung) (number : ℕ) → (number ≡ rung.number → ⊥) → (Contains (ring_numbers rungs) number → ⊥)
    → Contains (ring_numbers (rung ∷ rungs)) number → ⊥
unrung_before rung rungs number other none (zero, lt, is) = other (sym is)
unrung_before rung rungs number other none (suc j, lt, is) = none (j, omega (arith, lt), is)

-- behind the first ring for an area
backed_up_first : (user : User) (k : ℕ) (first : Device) (rung : Rung) (rungs : List Rung) (from mid to : PackerState) → k + 1 ≡ rung.number
    → BacksUpFirst k first from mid → RungsRun user mid rungs to → IsBackedUp k first (rung ∷ rungs) from to
backed_up_first user k first rung rungs from mid to same once run =
    let stays = place_rings user k mid rungs to once.result run once.backup in
    let goes = pass_rings user k mid rungs to run in
    record {
      rung = (0, omega arith, sym same);
      before = once.before;
      after = once.after;
      left = once.left;
      result = once.result;
      opening = once.opening;
      begins = once.begins;
      backs = once.backs;
      ends = λ pass. subst (λ (known : Known). Begins known.front (known_at to k pass).front) (once.ends pass) (goes.goes pass).grows;
      target = stays.target ∙ once.target;
      backup = stays.backup ∙ once.backup;
    }

-- behind a ring for another area
backed_up_later : (user : User) (k : ℕ) (first : Device) (rung : Rung) (rungs : List Rung) (from mid to : PackerState) → PassGoesOn k from mid
    → IsBackedUp k first rungs mid to → IsBackedUp k first (rung ∷ rungs) from to
backed_up_later user k first rung rungs from mid to goes later = record {
  rung = rung_before rung rungs (k + 1) later.rung;
  before = later.before;
  after = later.after;
  left = later.left;
  result = later.result;
  opening = λ pass. later.opening pass ∙ (goes.goes pass).opening;
  begins = λ pass. begins_on (known_at from k pass).front (known_at mid k pass).front later.before.front (goes.goes pass).grows (later.begins pass);
  backs = later.backs;
  ends = later.ends;
  target = later.target;
  backup = later.backup;
}

not_backed_up_later : (k : ℕ) (rung : Rung) (rungs : List Rung) (from mid to : PackerState) → (k + 1 ≡ rung.number → ⊥) → PlaceStays k from mid
    → IsNotBackedUp k rungs mid to → IsNotBackedUp k (rung ∷ rungs) from to
not_backed_up_later k rung rungs from mid to other stays later = record {
  unrung = unrung_before rung rungs (k + 1) other later.unrung;
  target = later.target ∙ stays.target;
  backup = later.backup;
}

-- a ring that was passed over is for another area than one that is there
passed_over : (number k count : ℕ) → ((number ≡ 0) ⊎ (count < number)) → k < count → k + 1 ≡ number → ⊥
passed_over number k count (inl zeroth) within same = absurd (omega (arith, zeroth, same))
passed_over number k count (inr past) within same = absurd (omega (arith, past, within, same))

-- a ring, whatever came of it
ring_first : (user : User) (number k : ℕ) (came : Came) (old new : PackerState) (first : Device)
    → AnswersRing user number came old new → k + 1 ≡ number → length old.backups ≡ length old.targets → k < length old.node.passes
    → target_at old k ≡ Some first → backup_at old k ≡ None → BacksUpFirst k first old new
ring_first user number k None old new first answers same count within is untried = absurd (passed_over number k (length old.node.passes) answers.0 within same)
ring_first user number k (Some answer) old new first answers same count within is untried =
    backs_first user number k answer old new first answers same count within is untried

-- a ring before others, of which this is known
ring_and_later : (user : User) (k : ℕ) (first : Device) (rung : Rung) (rungs : List Rung) (from mid to : PackerState)
    → AnswersRing user rung.number rung.came from mid → RungsRun user mid rungs to
    → length from.backups ≡ length from.targets → k < length from.node.passes → target_at from k ≡ Some first → backup_at from k ≡ None
    → (length mid.backups ≡ length mid.targets → k < length mid.node.passes → target_at mid k ≡ Some first → backup_at mid k ≡ None
    → IsNotBackedUp k rungs mid to ⊎ IsBackedUp k first rungs mid to)
    → IsNotBackedUp k (rung ∷ rungs) from to ⊎ IsBackedUp k first (rung ∷ rungs) from to
ring_and_later user k first rung rungs from mid to answers run count within is untried later = by (cases_eq (k + 1) rung.number)
  where
    on : (k + 1 ≡ rung.number → ⊥) → PassGoesOn k from mid → PlaceStays k from mid
        → IsNotBackedUp k rungs mid to ⊎ IsBackedUp k first rungs mid to → IsNotBackedUp k (rung ∷ rungs) from to ⊎ IsBackedUp k first (rung ∷ rungs) from to
    on other goes stays (inl none) = inl (not_backed_up_later k rung rungs from mid to other stays none)
    on other goes stays (inr one) = inr (backed_up_later user k first rung rungs from mid to goes one)

    by : ((k + 1 ≡ rung.number) ⊎ (k + 1 ≡ rung.number → ⊥)) → IsNotBackedUp k (rung ∷ rungs) from to ⊎ IsBackedUp k first (rung ∷ rungs) from to
    by (inl same) =
        inr (backed_up_first user k first rung rungs from mid to same
        (ring_first user rung.number k rung.came from mid first answers same count within is untried) run)
    by (inr other) =
        let goes = pass_ring user rung.number k rung.came from mid answers in
        let stays = place_other user rung.number k rung.came from mid answers other in
        on other goes stays (later (stays.backups ∙ count ∙ sym stays.targets) (omega (arith, within, goes.count)) (stays.target ∙ is) (stays.backup ∙ untried))

-- through all rings the area at a place is backed up onto its target once, where one comes for it
pub of_rings : BackupsAreOfRings
of_rings user [] from to k first run count within is untried = inl (record {
  unrung = λ rung. absurd (omega (arith, rung.1));
  target = ap (λ (w : PackerState). target_at w k) run;
  backup = ap (λ (w : PackerState). backup_at w k) run ∙ untried;
})
of_rings user (rung ∷ rungs) from to k first run count within is untried =
    ring_and_later user k first rung rungs from run.0 to run.1 run.2 count within is untried
    (λ counted inside there none. of_rings user rungs run.0 to k first run.2 counted inside there none)
