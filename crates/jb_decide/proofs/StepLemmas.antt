-- What a command is answered with, and the area that it leaves.
use Rattle.std.proofs.Common.{◌≡◌, inl, inr, ℕ, false, true, refl, sym, ◌∙◌, ap, subst}
use Rattle.std.proofs.lemmas.Bool.{false≢true}
use Rattle.jb_base.specs.declared.area.AreaRules.{AreaRules}
use Rattle.jb_base.specs.declared.user.User.{User}
use Rattle.jb_state.specs.Sound.{IsSound}
use Rattle.jb_model.specs.Standing.{is_refusal}
use Rattle.jb_state.specs.declared.change.Change.{Change}
use Rattle.jb_state.specs.declared.change.Change.TheVariants.{Nothing}
use Rattle.jb_model.specs.declared.command.Command.{Command}
use Rattle.jb_state.specs.declared.loaded.Loaded.{Loaded}
use Rattle.jb_model.specs.declared.reply.Reply.{Reply}
use Rattle.jb_model.specs.declared.reply.Reply.TheVariants as reply
use Rattle.jb_decide.specs.Refusal.{IsRefusal}
use Rattle.jb_decide.specs.StepOf.{ChangesNothing, IsLook, IsStepOf}
use Rattle.jb_decide.specs.Telling.{IsToldBy}
use Rattle.jb_decide.specs.declared.outcome.Outcome.{Outcome}

-- a refusal is told by what changes nothing
pub told_of_refusal : (answer : Reply) → is_refusal answer ≡ true → IsToldBy answer Nothing
told_of_refusal (reply.Posted number) refusal = absurd (false≢true refusal)
told_of_refusal (reply.Edited number) refusal = absurd (false≢true refusal)
told_of_refusal (reply.Text letter) refusal = tt
told_of_refusal (reply.Killed number) refusal = tt
told_of_refusal (reply.Marked last high) refusal = tt
told_of_refusal (reply.Packed base live dropped) refusal = absurd (false≢true refusal)
told_of_refusal (reply.Relinked changed) refusal = tt
told_of_refusal (reply.Denied rule) refusal = tt
told_of_refusal (reply.NoMessage number) refusal = tt
told_of_refusal (reply.TooLong field len) refusal = tt
told_of_refusal (reply.EmptyName field) refusal = tt
told_of_refusal (reply.SlotsFull slots) refusal = tt
told_of_refusal (reply.SubfieldsFull len) refusal = tt
told_of_refusal (reply.HeadersFull len) refusal = tt
told_of_refusal (reply.TextFull len) refusal = tt
told_of_refusal (reply.NumbersSpent next) refusal = tt
told_of_refusal (reply.MarksFull marks) refusal = tt

-- a command that is answered, does not look, and is no relink that finds no wrong link changes something
pub something : (command : Command) (answer : Reply) → is_refusal answer ≡ false → (IsLook command → ⊥) → (answer ≡ reply.Relinked 0 → ⊥) → ChangesNothing command answer → ⊥
something command answer done acts links (inl refused) = false≢true (sym done ∙ refused)
something command answer done acts links (inr (inl look)) = acts look
something command answer done acts links (inr (inr none)) = links none

-- a refusal changes nothing
pub refused_step : (rules : AreaRules) (loaded : Loaded) (user : User) (moment : ℕ) (command : Command) (answer : Reply) → IsSound rules.slots loaded
    → IsRefusal rules loaded user command answer → IsStepOf rules loaded user moment command (λ texts. answer) Nothing
refused_step rules loaded user moment command answer sound is = record {
  step = λ texts sized. is.step texts moment;
  fits = tt;
  sound = sound;
  kind = tt;
  text = refl;
  idle = λ texts nothing. refl;
  told = λ texts. told_of_refusal answer is.refusal;
  named = λ texts. tt;
}

-- what was found changes nothing
pub unchanged_step : (rules : AreaRules) (loaded : Loaded) (user : User) (moment : ℕ) (command : Command) (outcome : Outcome) (answer : Reply) → outcome.reply ≡ answer → outcome.change ≡ Nothing
    → IsStepOf rules loaded user moment command (λ texts. answer) Nothing → IsStepOf rules loaded user moment command (λ texts. outcome.reply) outcome.change
unchanged_step rules loaded user moment command outcome answer is none step =
    subst (λ (r : Reply). IsStepOf rules loaded user moment command (λ texts. r) outcome.change) (sym is)
    (subst (λ (c : Change). IsStepOf rules loaded user moment command (λ texts. answer) c) (sym none) step)

-- what was found is a refusal
pub refused_outcome : (rules : AreaRules) (loaded : Loaded) (user : User) (moment : ℕ) (command : Command) (outcome : Outcome) (answer : Reply) → outcome.reply ≡ answer → outcome.change ≡ Nothing
    → IsSound rules.slots loaded → IsRefusal rules loaded user command answer → IsStepOf rules loaded user moment command (λ texts. outcome.reply) outcome.change
refused_outcome rules loaded user moment command outcome answer is none sound refused =
    unchanged_step rules loaded user moment command outcome answer is none (refused_step rules loaded user moment command answer sound refused)
