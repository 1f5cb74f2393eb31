use Rattle.std.proofs.Common.{◌∙◌, ap}
use Rattle.std.proofs.lemmas.List.{get_or_read}
use Rattle.jb_index.specs.Edit.{with_kept_subject}
use Rattle.jb_index.proofs.EditLemmas.{changed_none, changed_there}
use Rattle.jb_index.proofs.PlaceLemmas.{none_there}
use Rattle.jb_index.proofs.editing.set_subject.Goals as goal

pub returns-in-Some-clause-items : goal.returns-in-Some-clause-items
returns-in-Some-clause-items c =
    c.set.ensures.items
    ∙ changed_there c.args.summaries.now.items c.args.number c.in-Some.at (with_kept_subject c.args.subject) (with_kept_subject c.args.subject c.index-one.result.now) c.requires c.in-Some.ensures.0 c.in-Some.ensures.1
    (λ d. ap (with_kept_subject c.args.subject) (get_or_read c.args.summaries.now.items c.in-Some.at c.index-one.result.now c.in-Some.ensures.0 c.index-one.ensures d))

pub returns-in_default-clause-items : goal.returns-in_default-clause-items
returns-in_default-clause-items c =
    changed_none c.args.summaries.now.items c.args.number (with_kept_subject c.args.subject)
    (none_there c.args.summaries.now.items c.args.number c.numbered_at.result c.numbered_at.ensures c.in_default.not-Some)
