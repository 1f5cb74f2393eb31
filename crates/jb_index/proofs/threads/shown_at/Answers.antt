use Rattle.std.proofs.Common.{sym, ◌∙◌, ap}
use Rattle.std.specs.Prelude.{is_some}
use Rattle.jb_index.specs.Answer.{is_listed}
use Rattle.jb_index.proofs.PlaceLemmas.{none_found, one_found, one_hidden}
use Rattle.jb_index.proofs.threads.shown_at.Goals as goal

pub returns-in_err-at-clause-shown : goal.returns-in_err-at-clause-shown
returns-in_err-at-clause-shown c =
    ap is_some c.from_residual.ensures ∙ none_found (is_listed c.args.rules.now c.args.user.now) c.args.summaries.now.items c.args.number c.in_err-at.ensures

pub returns-then-is_shown-clause-shown : goal.returns-then-is_shown-clause-shown
returns-then-is_shown-clause-shown c =
    one_found (is_listed c.args.rules.now c.args.user.now) c.args.summaries.now.items c.args.number c.in_ok-at.at c.index.result.now c.in_ok-at.ensures.0 c.index.ensures c.in_ok-at.ensures.1
    (sym c.is_shown.ensures ∙ c.if-is_shown.true)

pub returns-else-is_shown-clause-shown : goal.returns-else-is_shown-clause-shown
returns-else-is_shown-clause-shown c =
    one_hidden (is_listed c.args.rules.now c.args.user.now) c.args.summaries.now.items c.args.number c.in_ok-at.at c.index.result.now c.requires c.in_ok-at.ensures.0 c.index.ensures c.in_ok-at.ensures.1
    (sym c.is_shown.ensures ∙ c.if-is_shown.false)
