use Rattle.jb_option.proofs.Exchanges.{answers_only_changes, answers_no_refusal, exchanges_end}
use Rattle.jb_option.proofs.laws.exchanges_end.Goals as goal

pub returns-clause-same : goal.returns-clause-same
returns-clause-same c = answers_only_changes

pub returns-clause-none : goal.returns-clause-none
returns-clause-none c = answers_no_refusal

pub returns-clause-fits : goal.returns-clause-fits
returns-clause-fits c = exchanges_end
