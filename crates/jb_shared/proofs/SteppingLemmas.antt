-- A step of a pack, as a pack that was stopped or wanted memory; and what the steps make of what a pass knows.
use Rattle.std.proofs.Common.{◌≡◌, inl, inr, ℕ, ◌+◌, ◌*◌, ◌/◌, ◌<◌, Bool, true, false, List, [], ◌∷◌, ◌++◌, length, Option, None, Some, Result, Ok, Err, is_some, IfSome, nat_lt, ltb-true, ltb-false, ◌^◌, refl, sym, ◌∙◌, ap, subst, arith}
use Rattle.std.proofs.lemmas.Bool.{false≢true}
use Rattle.jb_area.specs.Area.{IsDoubtful, IsResting, copied_of, loaded_of, packs_in, packs_of, packs_to, rules_of}
use Rattle.jb_area.specs.Calls.{FailsWith, HasRest, MeetsCall, StepsPack}
use Rattle.jb_area.specs.Copying.{HasCopiedSome, begun_of}
use Rattle.jb_area.specs.declared.area.OpenArea.{OpenArea}
use Rattle.jb_area.specs.declared.stage.Stage.{Stage}
use Rattle.jb_limits.specs.declared.limits.TheConstants.{MOST_ENTRIES}
use Rattle.jb_pack.specs.declared.run.TheConstants.{PACK_STEP_BYTES}
use Rattle.jb_base.specs.declared.user.User.{User}
use Rattle.jb_decide.specs.Packs.{is_pack_refused}
use Rattle.jb_decide.specs.declared.error.AreaError.{AreaError}
use Rattle.jb_decide.specs.declared.error.AreaError.TheVariants as failing
use Rattle.jb_disk.specs.Device.{Device}
use Rattle.jb_model.specs.declared.command.Command.{Command}
use Rattle.jb_model.specs.declared.command.Command.TheVariants.{Post, Edit, Read, Peek, Kill, SetMark, Pack, Relink}
use Rattle.jb_model.specs.declared.entry.Entry.{Entry}
use Rattle.jb_model.specs.declared.reply.Reply.{Reply}
use Rattle.jb_pack.specs.Shadow.{Shadow, left}
use Rattle.jb_pack.proofs.PlanLemmas.{texts_small}
use Rattle.jb_publish.specs.Accounts.{Account}
use Rattle.jb_publish.specs.declared.known.PairMark.{PairMark}
use Rattle.jb_state.specs.Packed.{texts_size}
use Rattle.jb_state.specs.declared.loaded.Loaded.{Loaded}
use Rattle.jb_turn.specs.Rows.{Begins, StandsFrom}
use Rattle.jb_turn.specs.Steps.{given, sighted as took_in}
use Rattle.jb_turn.specs.declared.seat.Held.{Held}
use Rattle.jb_shared.specs.Calls.{AreLast, AreLeft, AreSteps, Asks, Calls, HasSteps}
use Rattle.jb_shared.specs.Histories.{settled_of}
use Rattle.jb_shared.specs.InTurn.{Knows, LeavesInTurn, SeatRow}
use Rattle.jb_shared.specs.Inside.{known_by_both}
use Rattle.jb_shared.specs.Keeping.{HasChange, IsKept, IsKeptSettled}
use Rattle.jb_shared.specs.Passes.{Known, refusing, seen, stepping}
use Rattle.jb_shared.specs.Stepping.{CopiesOnePart, HasTaken, LeavesAs, MayCopy, RunsStep, StepsOn, uncopied}
use Rattle.jb_shared.specs.declared.error.SharedError.{SharedError}
use Rattle.jb_shared.specs.declared.opening.Opening.{Opening}
use Rattle.jb_shared.specs.declared.refusal.Refusal.{Refusal}
use Rattle.jb_shared.specs.declared.refusal.Refusal.TheVariants.{Spent, Stepped}
use Rattle.jb_shared.specs.declared.shown.ShownArea.{ShownArea}
use Rattle.jb_shared.proofs.CallLemmas.{calls_through, leads_behind, leads_still}
use Rattle.jb_shared.proofs.IndexLemmas.{unchanged_no_change}
use Rattle.jb_shared.proofs.KeepingLemmas.{kept_wanting, leaves_wanting}
use Rattle.jb_shared.proofs.SettledLemmas.{begins_itself, begins_on}

module _ {D : Type 0} (shown : D → Device) where
  -- an area that was stopped without a change comes to no pack
  comes_to_none : (area : OpenArea D) (texts : List ℕ) → IsDoubtful shown area texts None → packs_to area ≡ packs_of area
  comes_to_none area texts (inl none) = ap (λ (s : Stage). packs_in s (packs_of area)) none.stage
  comes_to_none area texts (inr half) = ap (λ (s : Stage). packs_in s (packs_of area)) half.stage

  -- what a step leaves that failed, a pack leaves that failed as it copied
  fails_as : (old new : OpenArea D) (user : User) (moment : ℕ) (error : AreaError) → StepsPack shown old new (Err error) → (texts : List ℕ) → IsResting shown old texts → FailsWith shown error old new texts user moment Pack
  fails_as old new user moment failing.StoreFault steps texts resting =
      record {
        coming = None;
        change = comes_to_none new texts (steps.failed texts resting) ∙ steps.packs;
        doubt = steps.failed texts resting;
        opens = steps.opens texts resting;
        loaded = steps.loaded;
        commits = steps.commits;
        packs = steps.packs;
        crash = steps.crash texts resting;
      }
  fails_as old new user moment failing.OutOfMemory steps texts resting = (steps.failed texts resting, steps.touches)

  -- so to the history it is such a pack
  pub meets_step : (old new : OpenArea D) (user : User) (moment : ℕ) (error : AreaError) → StepsPack shown old new (Err error) → MeetsCall shown old new user moment Pack (Err error)
  meets_step old new user moment error steps = record {
    answered = tt;
    failed = fails_as old new user moment error steps;
    faults = record { quiet = tt; later = steps.faults.later; cause = steps.faults.cause };
    alike = steps.alike;
    rules = steps.rules;
    copies = λ none. absurd none;
    packed = tt;
    unspent = λ wanting. steps.commits;
    unpacked = λ wanting. steps.packs;
  }

  -- a step that was done leaves what one leaves that wanted memory
  step_wanting : (old new : OpenArea D) (more : Bool) → StepsPack shown old new (Ok more) → StepsPack shown old new (Err failing.OutOfMemory)
  step_wanting old new more steps = record {
    done = tt;
    failed = steps.done;
    opens = steps.opens;
    crash = steps.crash;
    touches = steps.touches;
    faults = record { quiet = tt; later = steps.faults.later; cause = steps.faults.quiet };
    alike = steps.alike;
    loaded = steps.loaded;
    commits = steps.commits;
    packs = steps.packs;
    rules = steps.rules;
    room = steps.room;
  }

  -- what stands for the history stands for it behind a step that wanted memory
  pub kept_without : (old new : ShownArea D) (area : OpenArea D) (mark : PairMark Opening) (history : List Entry) (user : User) (moment : ℕ) → IsKeptSettled shown old mark history → StepsPack shown old.area area (Err failing.OutOfMemory)
      → new ≡ record { area = area; shower = old.shower; doubted = old.doubted } → IsKept shown new mark history
  kept_without old new area mark history user moment kept steps same =
      kept_wanting shown old new area old.doubted mark history user moment Pack kept (meets_step old.area area user moment failing.OutOfMemory steps) steps.crash same

  -- and behind one that was done
  pub kept_step : (old new : ShownArea D) (area : OpenArea D) (mark : PairMark Opening) (history : List Entry) (user : User) (moment : ℕ) (more : Bool) → IsKeptSettled shown old mark history → StepsPack shown old.area area (Ok more)
      → new ≡ record { area = area; shower = old.shower; doubted = old.doubted } → IsKept shown new mark history
  kept_step old new area mark history user moment more kept steps same = kept_without old new area mark history user moment kept (step_wanting old.area area more steps) same

  -- whatever a crash leaves meanwhile
  pub step_leaves : (known : SeatRow) (old : ShownArea D) (area : OpenArea D) (user : User) (moment : ℕ) (more : Bool) → Knows (IsKeptSettled shown) old known → StepsPack shown old.area area (Ok more) → LeavesInTurn shown old.area area known known
  step_leaves known old area user moment more knows steps =
      leaves_wanting shown known old area user moment Pack knows (meets_step old.area area user moment failing.OutOfMemory (step_wanting old.area area more steps)) steps.crash

  -- a step by its answer
  pub steps_as : (old new : OpenArea D) (result answer : Result Bool AreaError) → result ≡ answer → StepsPack shown old new result → StepsPack shown old new answer
  steps_as old new result answer is steps = subst (λ (r : Result Bool AreaError). StepsPack shown old new r) is steps

  -- one that the device stopped leaves no change in doubt
  pub step_no_change : (old new : OpenArea D) (texts : List ℕ) → IsResting shown old texts → StepsPack shown old new (Err failing.StoreFault) → HasChange shown new → ⊥
  step_no_change old new texts resting steps change = unchanged_no_change shown new texts (steps.failed texts resting) change

-- how much a step has copied, by whether a pack would be refused
pub copies_by : {D : Type 0} (old new : OpenArea D) (more refused : Bool) → (refused ≡ true → (more ≡ false) × (new ≡ old))
    → (refused ≡ false → HasCopiedSome PACK_STEP_BYTES (loaded_of old).slots (copied_of old) (copied_of new) more) → CopiesOnePart old new more
copies_by old new more true stays copied = let is = stays refl in inr (is.1, is.0)
copies_by old new more false stays copied = inl (copied refl)

-- what was answered, false where it was not
abbrev ok_value : {E : Type 0} → Result Bool E → Bool
ok_value (Ok value) = value
ok_value (Err error) = false

-- where the answer is said twice, it is the same
pub none_more : {E : Type 0} (result : Result Bool E) (more : Bool) → result ≡ Ok more → result ≡ Ok false → more ≡ false
none_more {E} result more is none = ap (ok_value {E = E}) (sym is ∙ none)

-- a step keeps the mark, and what was seen as a beginning
pub step_keeps : {T : Type 0} (old new : SeatRow) (user : User) (moment : ℕ) (result : Result T SharedError) → RunsStep old new user moment result → (new.opening ≡ old.opening) × Begins old.front new.front
step_keeps old new user moment (Ok value) is = (ap (λ (r : SeatRow). r.opening) is, subst (λ (r : SeatRow). Begins old.front r.front) (sym is) (begins_itself old.front))
step_keeps old new user moment (Err error) runs = (runs.mark, runs.grows)

-- more of the history, and then more
pub taken_on : (old mid new : Known) → HasTaken old mid → HasTaken mid new → HasTaken old new
taken_on old mid new (front, grows, is) (more, further, are) =
    (more, begins_on old.front front more grows (subst (λ (k : Known). Begins k.front more) is further), are ∙ ap (λ (k : Known). seen k more) is)

-- steps leave what was seen
front_of : (known : Known) (steps : List Refusal) → (stepping known steps).front ≡ known.front
front_of known [] = refl
front_of known (step ∷ steps) = front_of (refusing known step) steps

-- and it matters not when more was taken
stepping_seen : (known : Known) (front : List Entry) (steps : List Refusal) → stepping (seen known front) steps ≡ seen (stepping known steps) front
stepping_seen known front [] = refl
stepping_seen known front (step ∷ steps) = stepping_seen (refusing known step) front steps

-- one step more
stepping_push : (known : Known) (steps : List Refusal) (step : Refusal) → stepping known (steps ++ step ∷ []) ≡ refusing (stepping known steps) step
stepping_push known [] step = refl
stepping_push known (first ∷ steps) step = stepping_push (refusing known first) steps step

-- the same steps from more of the history
taken_under : (old mid : Known) (steps : List Refusal) → HasTaken old mid → HasTaken (stepping old steps) (stepping mid steps)
taken_under old mid steps (front, grows, is) =
    (front, subst (λ (l : List Entry). Begins l front) (sym (front_of old steps)) grows, ap (λ (k : Known). stepping k steps) is ∙ stepping_seen old front steps)

-- and then still more
pub taken_steps : (old mid new : Known) (steps : List Refusal) → HasTaken old mid → HasTaken (stepping mid steps) new → HasTaken (stepping old steps) new
taken_steps old mid new steps taken more = taken_on (stepping old steps) (stepping mid steps) new (taken_under old mid steps taken) more

-- a step behind others
pub taken_push : (old mid new : Known) (steps : List Refusal) (step : Refusal) → HasTaken (stepping old steps) mid → HasTaken (refusing mid step) new → HasTaken (stepping old (steps ++ step ∷ [])) new
taken_push old mid new steps step taken more = subst (λ (k : Known). HasTaken k new) (sym (stepping_push old steps step)) (taken_steps (stepping old steps) mid new (step ∷ []) taken more)

-- a call from more of the history
ask_from : (old new : Known) (front : List Entry) (user : User) (moment : ℕ) (command : Command) (result : Result Reply SharedError) → Begins old.front front → Asks (seen old front) new user moment command result
    → Asks old new user moment command result
ask_from old new front user moment command result grows asks = record {
  opening = asks.opening;
  from = asks.from;
  taken = asks.taken;
  grows = begins_on old.front front asks.taken grows asks.grows;
  answers = asks.answers;
  covered = asks.covered;
  history = asks.history;
}

-- is a call from what was known before
pub asks_from : (old mid new : Known) (user : User) (moment : ℕ) (command : Command) (result : Result Reply SharedError) → HasTaken old mid → Asks mid new user moment command result → Asks old new user moment command result
asks_from old mid new user moment command result (front, grows, is) asks = ask_from old new front user moment command result grows (subst (λ (k : Known). Asks k new user moment command result) is asks)

-- also behind steps
pub asks_steps : (old mid new : Known) (steps : List Refusal) (user : User) (moment : ℕ) (command : Command) (result : Result Reply SharedError) → HasTaken old mid → Asks (stepping mid steps) new user moment command result
    → Asks (stepping old steps) new user moment command result
asks_steps old mid new steps user moment command result taken asks = asks_from (stepping old steps) (stepping mid steps) new user moment command result (taken_under old mid steps taken) asks

-- steps that each left a text, and one more that does
pub left_push : (steps : List Refusal) (bytes : ℕ) → AreLeft steps → AreLeft (steps ++ Stepped (Some bytes) ∷ [])
left_push [] bytes left = tt
left_push (Spent ∷ steps) bytes left = absurd left
left_push (Stepped None ∷ steps) bytes left = absurd left
left_push (Stepped (Some first) ∷ steps) bytes left = left_push steps bytes left

-- steps behind the first one
pub steps_behind : (old mid new : Known) (user : User) (moment bytes most : ℕ) (result : Result (Unit {0}) SharedError) → most ≡ 2 * (bytes / PACK_STEP_BYTES) + 1 → HasTaken (refusing old (Stepped (Some bytes))) mid
    → StepsOn (AreLast most) mid new user moment result → StepsOn AreSteps old new user moment result
steps_behind old mid new user moment bytes most (Ok done) is first (steps, last, taken) =
    (Stepped (Some bytes) ∷ steps, subst (λ (n : ℕ). AreLast n steps) is last, taken_steps (refusing old (Stepped (Some bytes))) mid new steps first taken)
steps_behind old mid new user moment bytes most (Err error) is first (steps, left, asks) =
    (Stepped (Some bytes) ∷ steps, left, asks_steps (refusing old (Stepped (Some bytes))) mid new steps user moment Pack (Err error) first asks)

-- a command that is no pack makes no step
none_made : (command : Command) (result : Result Reply SharedError) → (command ≡ Pack → ⊥) → HasSteps command [] result
none_made (Post to subject text reply_to private) result other = refl
none_made (Edit number subject text) result other = refl
none_made (Read number) result other = refl
none_made (Peek number) result other = refl
none_made (Kill number) result other = refl
none_made (SetMark number) result other = refl
none_made Relink result other = refl
none_made Pack result other = absurd (other refl)

-- a pack has made all
all_made : (result : Result Reply SharedError) (steps : List Refusal) → AreSteps steps → HasSteps Pack steps result
all_made (Ok reply) steps all = all
all_made (Err error) steps all = inl all

-- a call that makes no step
pub calls_at_once : (old new : Known) (user : User) (moment : ℕ) (command : Command) (result : Result Reply SharedError) → (command ≡ Pack → ⊥) → Asks old new user moment command result → Calls old new user moment command result
calls_at_once old new user moment command result other asks = record { steps = []; stepped = none_made command result other; asks = asks }

-- a pack that was stopped in a step
pub calls_stopped : (old new : Known) (user : User) (moment : ℕ) (error : SharedError) → StepsOn AreSteps old new user moment (Err error) → Calls old new user moment Pack (Err error)
calls_stopped old new user moment error (steps, left, asks) = record { steps = steps; stepped = inr left; asks = asks }

-- a pack behind its steps
pub calls_behind : (old mid new : Known) (user : User) (moment : ℕ) (result : Result Reply SharedError) (done : Unit {0}) → StepsOn AreSteps old mid user moment (Ok done) → Asks mid new user moment Pack result → Calls old new user moment Pack result
calls_behind old mid new user moment result done (steps, all, taken) asks =
    record { steps = steps; stepped = all_made result steps all; asks = asks_from (stepping old steps) mid new user moment Pack result taken asks }

-- what is known has taken no less
pub taken_itself : (known : Known) → HasTaken known known
taken_itself known = (known.front, begins_itself known.front, refl)

-- a turn in which a step was made
pub stepped_in : (account : Account Opening Entry) (old taken new : SeatRow) (front : List Entry) (left : Option ℕ) → taken ≡ took_in old front → Begins old.front front → new ≡ given taken (Some (Stepped left))
    → HasTaken (refusing (known_by_both old account) (Stepped left)) (known_by_both new account)
stepped_in account old taken new front left took grows is =
    (front, grows, ap (λ (k : SeatRow). known_by_both k account) (is ∙ ap (λ (k : SeatRow). given k (Some (Stepped left))) took))

module _ {D : Type 0} (shown : D → Device) where
  -- a turn that ended the pack
  pub stopped_in : (account : Account Opening Entry) (old taken new : SeatRow) (front : List Entry) (state state' : ShownArea D) (user : User) (moment : ℕ) (error : SharedError)
      → taken ≡ took_in old front → Begins old.front front → StandsFrom (IsKept shown) taken.opening state taken.front → RunsStep {T = Unit {0}} taken new user moment (Err error) → length front < MOST_ENTRIES
      → StandsFrom (IsKept shown) new.opening state' new.front → Begins account.shown (settled_of front)
      → Asks (known_by_both old account) (known_by_both new account) user moment Pack (Err error)
  stopped_in account old taken new front state state' user moment error took grows stands runs room later begins =
      calls_through shown account old taken new front state state' user moment Pack (Err error) took grows stands (leads_behind taken taken new None user moment Pack (Err error) (leads_still _ taken (λ account. refl)) runs) room later begins

-- of texts that were copied it is said whether one is left
pub says_left : {D : Type 0} (old new : OpenArea D) (more : Bool) → (loaded_of new) ≡ (loaded_of old) → HasCopiedSome PACK_STEP_BYTES (loaded_of old).slots (copied_of old) (copied_of new) more → more ≡ nat_lt 0 (uncopied new)
says_left old new more same copied =
    copied.says ∙ (ap (λ (l : Loaded). nat_lt 0 (left copied.shadow l.slots)) (sym same) ∙ ap (λ (k : Option Shadow). nat_lt 0 (left (begun_of k) (loaded_of new).slots)) (sym copied.kept))

-- none
no_left : (n : ℕ) → false ≡ nat_lt 0 n → n ≡ 0
no_left n is = omega (arith, ltb-false 0 n (sym is))

module _ {D : Type 0} (shown : D → Device) where
  -- the texts of an area at rest are no more bytes than a number of 64 bits counts
  pub texts_few : (area new : OpenArea D) → HasRest shown area → (loaded_of new) ≡ (loaded_of area) → texts_size (loaded_of new).slots < 2 ^ 64
  texts_few area new rest same =
      subst (λ (l : Loaded). texts_size l.slots < 2 ^ 64) (sym same) (texts_small (rules_of area).slots (loaded_of area) rest.rests.kept.ruled.sound rest.rests.kept.ruled.few_slots)

  -- what a step of a pack says that it left
  pub leaves_as : (old : OpenArea D) (held : Held (ShownArea D)) (user : User) (more : Bool) (left : Option ℕ) (rest : HasRest shown old) → (loaded_of held.state.area) ≡ (loaded_of old)
      → is_some left ≡ more → IfSome left (λ bytes. bytes ≡ texts_size (loaded_of held.state.area).slots)
      → ((texts : List ℕ) → IsResting shown old texts → is_pack_refused (rules_of old) texts (loaded_of old) user ≡ true → (more ≡ false) × (held.state.area ≡ old))
      → ((texts : List ℕ) → IsResting shown old texts → is_pack_refused (rules_of old) texts (loaded_of old) user ≡ false → HasCopiedSome PACK_STEP_BYTES (loaded_of old).slots (copied_of old) (copied_of held.state.area) more)
      → LeavesAs shown held user left
  leaves_as old held user more (Some bytes) rest same is bytes_are stays copies = (some_left (is_pack_refused (rules_of old) rest.texts (loaded_of old) user) refl, bytes_are)
    where
      new : OpenArea D
      new = held.state.area

      some_left : (refused : Bool) → is_pack_refused (rules_of old) rest.texts (loaded_of old) user ≡ refused → 0 < uncopied new
      some_left true refused = absurd (false≢true (sym (is ∙ (stays rest.texts rest.rests refused).0)))
      some_left false refused = ltb-true 0 (uncopied new) (sym (is ∙ says_left old new more same (copies rest.texts rest.rests refused)))
  leaves_as old held user more None rest same is bytes_are stays copies = λ may. none_left may (is_pack_refused (rules_of old) rest.texts (loaded_of old) user) refl
    where
      new : OpenArea D
      new = held.state.area

      none_left : MayCopy shown held user → (refused : Bool) → is_pack_refused (rules_of old) rest.texts (loaded_of old) user ≡ refused → uncopied new ≡ 0
      none_left may true refused =
          let still = (stays rest.texts rest.rests refused).1 in
          no_left (uncopied new)
          (is ∙ says_left old new more same
          (copies may.texts (subst (λ (a : OpenArea D). IsResting shown a may.texts) still may.rests)
          (subst (λ (a : OpenArea D). is_pack_refused (rules_of a) may.texts (loaded_of a) user ≡ false) still may.allowed)))
      none_left may false refused = no_left (uncopied new) (is ∙ says_left old new more same (copies rest.texts rest.rests refused))
