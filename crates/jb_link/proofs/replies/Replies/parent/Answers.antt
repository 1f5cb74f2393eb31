use Rattle.std.proofs.Common.{◌∙◌, sym, ap, Some, None}
use Rattle.jb_link.proofs.LiveLemmas.{linkables_with_texts}
use Rattle.jb_link.specs.Ids.{lent}
use Rattle.jb_state.specs.Links.{parent_for}
use Rattle.jb_link.proofs.replies.Replies.parent.Goals as goal

pub returns-in-Some-clause-found : goal.returns-in-Some-clause-found
returns-in-Some-clause-found c = λ texts.
    rw c.in-Some.is
    (c.lower_with.ensures.found c.args.kept
    ∙ ap (λ live. parent_for live c.args.number (lent (Some c.in-Some.id)) c.args.kept)
    (sym (linkables_with_texts texts c.args.loaded.now.base c.args.loaded.now.slots)))

pub returns-in-None-clause-found : goal.returns-in-None-clause-found
returns-in-None-clause-found c = λ texts.
    rw c.in-None.is
    (c.number_if_lower.ensures.found
    ∙ ap (λ live. parent_for live c.args.number None c.args.kept) (sym (linkables_with_texts texts c.args.loaded.now.base c.args.loaded.now.slots)))
