use Rattle.jb_talk.proofs.CallerLemmas.{callers_ask, nobody_asks}
use Rattle.jb_talk.proofs.laws.nobody_asks_before_log_in.Goals as goal

pub returns-clause-callers : goal.returns-clause-callers
returns-clause-callers c = callers_ask

pub returns-clause-nobody : goal.returns-clause-nobody
returns-clause-nobody c = nobody_asks
