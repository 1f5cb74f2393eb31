use Rattle.std.proofs.Common.{inl, inr, ℕ, [], ◌∷◌, ◌++◌, length-append, None, Option, Some, Result, Ok, Err, ap, arith, refl, subst, ◌∙◌}
use Rattle.jb_model.specs.declared.command.Command.TheVariants.{Pack}
use Rattle.jb_shared.specs.Inside.{known_in}
use Rattle.jb_shared.specs.Passes.{stepping}
use Rattle.jb_shared.specs.Stepping.{StepsAs}
use Rattle.jb_shared.specs.declared.error.SharedError.{SharedError}
use Rattle.jb_shared.specs.declared.refusal.Refusal.TheVariants.{Stepped}
use Rattle.jb_shared.proofs.SteppingLemmas.{asks_from, left_push, taken_itself, taken_push}
use Rattle.jb_shared.proofs.shared.SharedArea.step_on.Goals as goal

pub loop-init : goal.loop-init
loop-init g c = record { ours = c.requires.ours; mark = refl; taken = ([], tt, refl, taken_itself (known_in c.args.parts)) }

pub loop-preserved : goal.loop-preserved
loop-preserved g c =
    let at = c.loop in
    let was = at.invariant.taken in let steps = was.0 in let left = was.1 in let count = was.2 in let taken = was.3 in
    let more = length-append steps (Stepped (Some c.in-Some._bytes) ∷ []) in
    record {
      ours = c.step-next.ensures.ours;
      mark = c.step-next.ensures.mark ∙ at.invariant.mark;
      taken = (
        steps ++ Stepped (Some c.in-Some._bytes) ∷ [],
        left_push steps c.in-Some._bytes left,
        omega (arith, count, more),
        taken_push (known_in c.args.parts) (known_in at.parts) (known_in c.step-next.result.0) steps (Stepped (Some c.in-Some._bytes)) taken
            (subst (λ (r : Result (Option ℕ) SharedError). StepsAs (known_in at.parts) (known_in c.step-next.result.0) c.args.user.now c.args.moment r)
            (c.in-Ok.is ∙ ap (λ (o : Option ℕ). Ok o) c.in-Some.is) c.step-next.ensures.steps),
      );
    }

pub returns-in-None-clause-steps : goal.returns-in-None-clause-steps
returns-in-None-clause-steps g c =
    let at = c.loop in
    let was = at.invariant.taken in let steps = was.0 in let left = was.1 in let count = was.2 in let taken = was.3 in
    let within = c.loop-test.true in (
      steps ++ Stepped None ∷ [],
      inl (steps, left, omega (arith, count, within), refl),
      taken_push (known_in c.args.parts) (known_in at.parts) (known_in c.step-next.result.0) steps (Stepped None) taken
          (subst (λ (r : Result (Option ℕ) SharedError). StepsAs (known_in at.parts) (known_in c.step-next.result.0) c.args.user.now c.args.moment r)
          (c.in-Ok.is ∙ ap (λ (o : Option ℕ). Ok o) c.in-None.is) c.step-next.ensures.steps),
    )

pub returns-in-Err-clause-steps : goal.returns-in-Err-clause-steps
returns-in-Err-clause-steps g c =
    let at = c.loop in
    let was = at.invariant.taken in let steps = was.0 in let left = was.1 in let count = was.2 in let taken = was.3 in (
      steps,
      left,
      asks_from (stepping (known_in c.args.parts) steps) (known_in at.parts) (known_in c.step-next.result.0) c.args.user.now c.args.moment Pack (Err c.in-Err.error) taken
          (subst (λ (r : Result (Option ℕ) SharedError). StepsAs (known_in at.parts) (known_in c.step-next.result.0) c.args.user.now c.args.moment r) c.in-Err.is c.step-next.ensures.steps),
    )

pub returns-clause-steps : goal.returns-clause-steps
returns-clause-steps g c =
    let was = c.loop.invariant.taken in let steps = was.0 in let left = was.1 in let count = was.2 in let taken = was.3 in
    let end = c.loop.auto.counter-end in
    let all = c.loop-test.false in (steps, inr (left, omega (arith, count, end, all)), taken)
