-- What a call makes of what its pass knows, by its answer.
use Rattle.std.specs.Prelude.{◌≡◌, ◌⊎◌, ℕ, ◌+◌, ◌*◌, ◌/◌, ◌<◌, ◌≤◌, Bool, List, [], ◌∷◌, ◌++◌, length, Option, Some, None, Result, Ok, Err}
use Rattle.jb_limits.specs.declared.limits.TheConstants.{MOST_ENTRIES}
use Rattle.jb_pack.specs.declared.run.TheConstants.{PACK_STEP_BYTES}
use Rattle.jb_base.specs.declared.user.User.{User}
use Rattle.jb_model.specs.declared.command.Command.{Command}
use Rattle.jb_model.specs.declared.command.Command.TheVariants.{Pack}
use Rattle.jb_model.specs.declared.entry.Entry.{Entry}
use Rattle.jb_model.specs.declared.entry.Entry.TheVariants.{Called}
use Rattle.jb_model.specs.declared.entry.Outcome.{Outcome}
use Rattle.jb_model.specs.declared.entry.Outcome.TheVariants.{Replied, InDoubt, NotBegun}
use Rattle.jb_model.specs.declared.reply.Reply.{Reply}
use Rattle.jb_turn.specs.Rows.{Begins}
use Rattle.jb_shared.specs.Histories.{IsHistory, settled_of}
use Rattle.jb_shared.specs.Stops.{ended}
use Rattle.jb_shared.specs.Passes.{Known, refusing, seen, stepping}
use Rattle.jb_shared.specs.declared.error.SharedError.{SharedError}
use Rattle.jb_shared.specs.declared.error.SharedError.TheVariants.{StoreFault, RunSpent, OutOfMemory}
use Rattle.jb_shared.specs.declared.opening.Opening.{Opening}
use Rattle.jb_shared.specs.declared.refusal.Refusal.{Refusal}
use Rattle.jb_shared.specs.declared.refusal.Refusal.TheVariants as refusal

-- the entry of the next call of the node whose calls these are
abbrev pub call_of : ℕ → List Entry → User → ℕ → Command → Outcome → Entry
call_of node mine user moment command outcome = Called node (length mine + 1) user moment command outcome

-- what is known once a doubt has ended so, where there was one
abbrev pub ending : Known → Option Bool → Known
ending known end = record known { front = ended known.front end }

-- what is known once the node's call is recorded, as the last entry
abbrev pub recording : Known → Entry → Known
recording known call = record known { front = known.front ++ call ∷ []; mine = known.mine ++ call ∷ [] }

-- what is known before and after a call at rest whose entry is this by its outcome, by its answer: an answered one is recorded with its
-- reply, and one that a fault stopped as such; want of memory leaves no entry of it
abbrev pub Runs : Known → Known → (Outcome → Entry) → Result Reply SharedError → Type 0
Runs old new call (Ok reply) = new ≡ recording old (call (Replied reply))
Runs old new call (Err StoreFault) = (faults : ℕ) × (new ≡ recording old (call (InDoubt faults)))
Runs old new call (Err OutOfMemory) = new ≡ old
Runs old new call (Err error) = ⊥

-- a call that the device stopped: it was begun, and its change is in doubt; or the doubt before it could not be ended, and it was not begun
abbrev pub IsStoppedCall : Known → Known → User → ℕ → Command → Type 0
IsStoppedCall old new user moment command =
    ((ended : Option Bool) × (faults : ℕ) × (new ≡ recording (ending old ended) (call_of old.node old.mine user moment command (InDoubt faults))))
    ⊎ ((faults : ℕ) × (new ≡ recording old (call_of old.node old.mine user moment command (NotBegun faults))))

-- a call that was let through: it runs once a doubt has ended, where there was one; or the device stopped it
abbrev pub Performs : Known → Known → User → ℕ → Command → Result Reply SharedError → Type 0
Performs old new user moment command result =
    ((ended : Option Bool) × Runs (ending old ended) new (call_of old.node old.mine user moment command) result)
    ⊎ ((result ≡ Err StoreFault) × IsStoppedCall old new user moment command)

-- what is known before, with the whole history taken, and after, by the answer: what looks showed and how often they were not let in
-- stays. A history that is spent leaves no entry at all
abbrev pub Answers : Known → Known → User → ℕ → Command → Result Reply SharedError → Type 0
Answers old new user moment command (Err StoreFault) = (length old.front < MOST_ENTRIES) × IsStoppedCall old new user moment command
Answers old new user moment command (Err RunSpent) = (MOST_ENTRIES ≤ length old.front) × (new ≡ refusing old refusal.Spent)
Answers old new user moment command result = (length old.front < MOST_ENTRIES)
    × ((ended : Option Bool) × Runs (ending old ended) new (call_of old.node old.mine user moment command) result)

-- a call in one turn: it takes the whole history, which goes on from what the pass had seen and has all that its looks showed among what
-- is settled, and leaves a legal one
pub record Asks (old new : Known) (user : User) (moment : ℕ) (command : Command) (result : Result Reply SharedError) : Type 0 where
  pub opening : Opening
  pub from : old.opening ≡ Some opening
  pub taken : List Entry
  pub grows : Begins old.front taken
  pub answers : Answers (seen old taken) new user moment command result
  pub covered : Begins old.shown (settled_of taken)
  pub history : IsHistory opening new.front

-- behind each of these steps of a pack a text was left to copy
abbrev pub AreLeft : List Refusal → Type 0
AreLeft [] = Unit {0}
AreLeft (refusal.Spent ∷ steps) = ⊥
AreLeft (refusal.Stepped None ∷ steps) = ⊥
AreLeft (refusal.Stepped (Some bytes) ∷ steps) = AreLeft steps

-- these steps were the last: behind one of so many none was left; or so many were made
abbrev pub AreLast : ℕ → List Refusal → Type 0
AreLast most steps = ((before : List Refusal) × AreLeft before × (length before < most) × (steps ≡ before ++ refusal.Stepped None ∷ [])) ⊎ (AreLeft steps × (length steps ≡ most))

-- all steps of a pack: until no text was left, or as many as the texts at the first one may want
abbrev pub AreSteps : List Refusal → Type 0
AreSteps [] = ⊥
AreSteps (refusal.Spent ∷ steps) = ⊥
AreSteps (refusal.Stepped None ∷ steps) = steps ≡ []
AreSteps (refusal.Stepped (Some bytes) ∷ steps) = AreLast (2 * (bytes / PACK_STEP_BYTES) + 1) steps

-- the turns before the last one: a pack that is done has made all its steps, one that is not at least a beginning, and no other command has any
abbrev pub HasSteps : Command → List Refusal → Result Reply SharedError → Type 0
HasSteps Pack steps (Ok reply) = AreSteps steps
HasSteps Pack steps (Err error) = AreSteps steps ⊎ AreLeft steps
HasSteps _ steps result = steps ≡ []

-- a call: steps in turns of their own, where it packs, and then the turn in which it is asked or was stopped
pub record Calls (old new : Known) (user : User) (moment : ℕ) (command : Command) (result : Result Reply SharedError) : Type 0 where
  pub steps : List Refusal
  pub stepped : HasSteps command steps result
  pub asks : Asks (stepping old steps) new user moment command result
