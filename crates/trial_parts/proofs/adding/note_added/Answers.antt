use Rattle.std.proofs.Common.{ap}
use Rattle.trial_parts.proofs.adding.note_added.Goals as goal

pub returns-clause-entry : goal.returns-clause-entry
returns-clause-entry g c = ap (λ r. r.front) (c.note.ensures.row _ c.requires.entry)

pub returns-clause-same : goal.returns-clause-same
returns-clause-same g c = ap (λ r. r.opening) (c.note.ensures.row _ c.requires.entry)
