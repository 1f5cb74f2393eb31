use Rattle.jb_limits.specs.declared.limits.TheConstants.{MOST_SLOTS}
use Rattle.jb_decide.proofs.DecidedLemmas.{fits_under, same_answer}
use Rattle.jb_decide.proofs.deciding.decide_kill.Goals as goal

pub decide_short-requires-clause-fits : goal.decide_short-requires-clause-fits
decide_short-requires-clause-fits c =
    let kept = rw (← c.loaded.ensures) at c.requires.kept in
    rw (← c.loaded.ensures) (fits_under c.args.rules.now.slots MOST_SLOTS c.kill-outcome.result.change c.loaded.result.now kept.few_slots (c.kill-outcome.ensures.step 0).fits)

pub returns-clause-decided : goal.returns-clause-decided
returns-clause-decided c = λ moment texts contents are.
    let step = rw c.loaded.ensures at c.kill-outcome.ensures.step in
    c.decide_short.ensures.decided c.args.rules.now c.args.user.now moment _ _ texts contents c.requires.kept.sound are (step moment)
    (same_answer c.args.held.now texts contents c.kill-outcome.result.reply are.sized)
