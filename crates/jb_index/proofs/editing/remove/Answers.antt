use Rattle.std.proofs.Common.{◌∙◌}
use Rattle.jb_index.proofs.EditLemmas.{without_at, without_none}
use Rattle.jb_index.proofs.PlaceLemmas.{none_there}
use Rattle.jb_index.proofs.editing.remove.Goals as goal

pub returns-in-Some-clause-items : goal.returns-in-Some-clause-items
returns-in-Some-clause-items c =
    c.remove.ensures.items ∙ without_at c.args.summaries.now.items c.args.number c.in-Some.at c.requires c.in-Some.ensures.0 c.in-Some.ensures.1

pub returns-in_default-clause-items : goal.returns-in_default-clause-items
returns-in_default-clause-items c =
    without_none c.args.summaries.now.items c.args.number (none_there c.args.summaries.now.items c.args.number c.numbered_at.result c.numbered_at.ensures c.in_default.not-Some)
