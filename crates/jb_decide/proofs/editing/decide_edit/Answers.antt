use Rattle.std.proofs.Common.{refl}
use Rattle.std.proofs.lemmas.Result.{IfOk-weaker}
use Rattle.jb_limits.specs.declared.limits.TheConstants.{MOST_SLOTS}
use Rattle.jb_decide.proofs.DecidedLemmas.{fits_under, same_answer}
use Rattle.jb_decide.proofs.editing.decide_edit.Goals as goal

pub decide_long-requires-clause-fits : goal.decide_long-requires-clause-fits
decide_long-requires-clause-fits c =
    let kept = rw (← c.loaded.ensures) at c.requires.kept in
    rw (← c.loaded.ensures) (fits_under c.args.rules.now.slots MOST_SLOTS c.in_ok-outcome.outcome.change c.loaded.result.now kept.few_slots (c.in_ok-outcome.ensures 0).fits)

pub decide_long-requires-clause-text : goal.decide_long-requires-clause-text
decide_long-requires-clause-text c = (c.in_ok-outcome.ensures 0).text

pub decide_long-requires-clause-kind : goal.decide_long-requires-clause-kind
decide_long-requires-clause-kind c = (c.in_ok-outcome.ensures 0).kind

pub returns-clause-decided : goal.returns-clause-decided
returns-clause-decided c =
    let step = rw c.loaded.ensures at c.in_ok-outcome.ensures in
    IfOk-weaker c.decide_long.result _ _
    (λ decided of moment texts contents are.
    of c.args.rules.now c.args.user.now moment _ _ texts contents c.requires.kept.sound are (step moment) refl
    (same_answer c.args.held.now texts contents c.in_ok-outcome.outcome.reply are.sized))
    c.decide_long.ensures.decided
