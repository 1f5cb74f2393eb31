use Rattle.std.proofs.Common.{[], ◌∙◌, sym}
use Rattle.jb_decide.proofs.RelinkLemmas.{linked_is, relinking_is}
use Rattle.jb_decide.proofs.StepLemmas.{unchanged_step}
use Rattle.jb_decide.proofs.relinks.relink.Goals as goal

pub changed-changed-requires-clause-plan : goal.changed-changed-requires-clause-plan
changed-changed-requires-clause-plan c = λ texts. c.as_slice.ensures ∙ c.in_ok-plan.ensures texts

pub returns-then-changed-eq0 : goal.returns-then-changed-eq0
returns-then-changed-eq0 c = λ moment.
    unchanged_step c.args.rules.now c.args.loaded.now c.args.user.now moment _ c.unchanged-then-changed-eq0.result _
    c.unchanged-then-changed-eq0.ensures.reply c.unchanged-then-changed-eq0.ensures.change
    (linked_is c.args.rules.now c.args.loaded.now c.args.user.now moment c.changed-changed.result (sym c.denied.ensures ∙ c.in_default.is) c.if-changed-eq0.true
    c.changed-changed.ensures.count c.requires.sound)

pub returns : goal.returns
returns c = λ moment.
    relinking_is c.args.rules.now c.args.loaded.now c.args.user.now moment c.changed-changed.result c.in_ok-plan.plan (sym c.denied.ensures ∙ c.in_default.is)
    (c.in_ok-plan.ensures []) c.if-changed-eq0.false c.changed-changed.ensures.count c.requires.sound
