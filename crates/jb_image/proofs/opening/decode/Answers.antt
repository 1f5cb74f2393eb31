use Rattle.jb_image.proofs.Once.{refused_once}
use Rattle.jb_image.proofs.Theorems.{not_refused_where_open, one_state}
use Rattle.jb_image.proofs.opening.decode.Goals as goal

pub returns-clause-alone : goal.returns-clause-alone
returns-clause-alone g c = one_state

pub returns-clause-open : goal.returns-clause-open
returns-clause-open g c = not_refused_where_open

pub returns-clause-once : goal.returns-clause-once
returns-clause-once g c = refused_once
