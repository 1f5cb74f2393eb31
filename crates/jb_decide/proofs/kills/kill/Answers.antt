use Rattle.std.proofs.Common.{sym, ◌∙◌}
use Rattle.jb_state.specs.declared.loaded.LoadedMessage.{LoadedMessage}
use Rattle.jb_decide.proofs.KillLemmas.{kill_forbidden, kill_is, kill_unseen}
use Rattle.jb_decide.proofs.StepLemmas.{refused_outcome}
use Rattle.jb_decide.proofs.kills.kill.Goals as goal

pub returns-in_default-seen_at-clause-step : goal.returns-in_default-seen_at-clause-step
returns-in_default-seen_at-clause-step c = λ moment.
    refused_outcome c.args.rules.now c.args.loaded.now c.args.user.now moment _ c.unchanged-in_default-seen_at.result _
    c.unchanged-in_default-seen_at.ensures.reply c.unchanged-in_default-seen_at.ensures.change c.requires.sound
    (kill_unseen c.args.rules.now c.args.loaded.now c.args.user.now c.args.number (sym c.denied.ensures ∙ c.in_default.is) (sym c.in_default-seen_at.ensures.named))

pub returns-in-Some-kill_denied-clause-step : goal.returns-in-Some-kill_denied-clause-step
returns-in-Some-kill_denied-clause-step c = λ moment.
    refused_outcome c.args.rules.now c.args.loaded.now c.args.user.now moment _ c.unchanged-in-Some-kill_denied.result _
    c.unchanged-in-Some-kill_denied.ensures.reply c.unchanged-in-Some-kill_denied.ensures.change c.requires.sound
    (kill_forbidden c.args.rules.now c.args.loaded.now c.args.user.now c.args.number c.in-Some-seen_at.found.message.now c.in-Some-kill_denied.rule
    (sym c.denied.ensures ∙ c.in_default.is) (sym c.in-Some-seen_at.ensures.named) (sym c.kill_denied.ensures ∙ c.in-Some-kill_denied.is))

pub returns-clause-step : goal.returns-clause-step
returns-clause-step c = λ moment.
    let message : LoadedMessage = c.in-Some-seen_at.found.message.now in
    kill_is c.args.rules.now c.args.loaded.now c.args.user.now moment c.args.number c.in-Some-seen_at.found.place message
    (sym c.denied.ensures ∙ c.in_default.is) (sym c.in-Some-seen_at.ensures.named) (sym c.kill_denied.ensures ∙ c.in_default-kill_denied.is) c.in-Some-seen_at.ensures.placed c.requires.sound
