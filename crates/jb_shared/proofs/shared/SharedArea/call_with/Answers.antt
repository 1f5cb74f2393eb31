use Rattle.std.proofs.Common.{Result, Err, subst, sym}
use Rattle.jb_model.specs.declared.command.Command.{Command}
use Rattle.jb_shared.specs.Calls.{AreSteps, Asks, Calls}
use Rattle.jb_shared.specs.Inside.{known_in}
use Rattle.jb_shared.specs.Stepping.{StepsOn}
use Rattle.jb_shared.specs.declared.error.SharedError.{SharedError}
use Rattle.jb_shared.proofs.SteppingLemmas.{calls_at_once, calls_behind, calls_stopped}
use Rattle.jb_shared.proofs.shared.SharedArea.call_with.Goals as goal

pub returns-in_default-clause-calls : goal.returns-in_default-clause-calls
returns-in_default-clause-calls g c =
    calls_at_once (known_in c.args.parts) (known_in c.ask.result.0) c.args.call.user.now c.args.call.moment c.args.call.command.now c.ask.result.1 c.in_default.not-Pack c.ask.ensures.asks

pub returns-in-Ok-clause-calls : goal.returns-in-Ok-clause-calls
returns-in-Ok-clause-calls g c =
    let old = known_in c.args.parts in
    let mid = known_in c.copy_by_steps-parts.result.0 in
    let new = known_in c.ask-in-Ok.result.0 in
    subst (λ (command : Command). Calls old new c.args.call.user.now c.args.call.moment command c.ask-in-Ok.result.1) (sym c.in-Pack.is)
    (calls_behind old mid new c.args.call.user.now c.args.call.moment c.ask-in-Ok.result.1 c.in-Ok.field-0
    (subst (λ (r : Result (Unit {0}) SharedError). StepsOn AreSteps old mid c.args.call.user.now c.args.call.moment r) c.in-Ok.is c.copy_by_steps-parts.ensures.steps)
    (subst (λ (command : Command). Asks mid new c.args.call.user.now c.args.call.moment command c.ask-in-Ok.result.1) c.in-Pack.is c.ask-in-Ok.ensures.asks))

pub returns-in-Err-clause-calls : goal.returns-in-Err-clause-calls
returns-in-Err-clause-calls g c =
    let old = known_in c.args.parts in
    let mid = known_in c.copy_by_steps-parts.result.0 in
    subst (λ (command : Command). Calls old mid c.args.call.user.now c.args.call.moment command (Err c.in-Err.error)) (sym c.in-Pack.is)
    (calls_stopped old mid c.args.call.user.now c.args.call.moment c.in-Err.error
    (subst (λ (r : Result (Unit {0}) SharedError). StepsOn AreSteps old mid c.args.call.user.now c.args.call.moment r) c.in-Err.is c.copy_by_steps-parts.ensures.steps))
