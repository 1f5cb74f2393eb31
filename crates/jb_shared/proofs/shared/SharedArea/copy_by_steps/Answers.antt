use Rattle.std.proofs.Common.{ℕ, None, Option, Result, Ok, ap, refl, subst, ◌∙◌, [], ◌∷◌}
use Rattle.jb_shared.specs.Inside.{known_in}
use Rattle.jb_shared.specs.Stepping.{StepsAs}
use Rattle.jb_shared.specs.declared.error.SharedError.{SharedError}
use Rattle.jb_shared.specs.declared.refusal.Refusal.TheVariants.{Stepped}
use Rattle.jb_shared.proofs.SteppingLemmas.{steps_behind}
use Rattle.jb_shared.proofs.shared.SharedArea.copy_by_steps.Goals as goal

pub returns-in-Some-clause-steps : goal.returns-in-Some-clause-steps
returns-in-Some-clause-steps g c =
    steps_behind (known_in c.args.parts) (known_in c.step-parts.result.0) (known_in c.step_on.result.0) c.args.user.now c.args.moment _ _ c.step_on.result.1 c.turns_behind-most.ensures
    (subst (λ (r : Result (Option ℕ) SharedError). StepsAs (known_in c.args.parts) (known_in c.step-parts.result.0) c.args.user.now c.args.moment r)
    (c.in-Ok.is ∙ ap (λ (o : Option ℕ). Ok o) c.in-Some.is) c.step-parts.ensures.steps) c.step_on.ensures.steps

pub returns-in-None-clause-steps : goal.returns-in-None-clause-steps
returns-in-None-clause-steps g c = (
  Stepped None ∷ [],
  refl,
  subst (λ (r : Result (Option ℕ) SharedError). StepsAs (known_in c.args.parts) (known_in c.step-parts.result.0) c.args.user.now c.args.moment r)
      (c.in-Ok.is ∙ ap (λ (o : Option ℕ). Ok o) c.in-None.is) c.step-parts.ensures.steps,
)

pub returns-in-Err-clause-steps : goal.returns-in-Err-clause-steps
returns-in-Err-clause-steps g c = (
  [],
  tt,
  subst (λ (r : Result (Option ℕ) SharedError). StepsAs (known_in c.args.parts) (known_in c.step-parts.result.0) c.args.user.now c.args.moment r) c.in-Err.is c.step-parts.ensures.steps,
)
