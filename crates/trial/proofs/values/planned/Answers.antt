use Rattle.std.proofs.Common.{◌∙◌}
use Rattle.trial.proofs.values.planned.Goals as goal

pub plan-requires-clause-links : goal.plan-requires-clause-links
plan-requires-clause-links c = λ texts. c.as_slice.ensures ∙ c.in_ok-links.ensures texts
