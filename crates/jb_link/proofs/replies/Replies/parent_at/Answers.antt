use Rattle.std.proofs.Common.{[], Some, None, ◌∙◌, ap}
use Rattle.jb_state.specs.LiveSlots.{linkables}
use Rattle.jb_state.specs.Links.{parent_for}
use Rattle.jb_link.proofs.FoundLemmas.{parent_in_area}
use Rattle.jb_link.proofs.ParentLemmas.{parent_of_named}
use Rattle.jb_link.proofs.replies.Replies.parent_at.Goals as goal

pub returns-in-Some-clause-found : goal.returns-in-Some-clause-found
returns-in-Some-clause-found c =
    c.parent.ensures.found []
    ∙ ap (λ id. parent_for (linkables [] c.args.loaded.now) c.args.number id c.in-Some.message.now.head.reply_to) c.first.ensures
    ∙ parent_of_named c.args.loaded.now c.args.number (Some c.in-Some.message.now) c.in-Some.ensures.named

pub returns-in-Some-clause-below : goal.returns-in-Some-clause-below
returns-in-Some-clause-below c =
    parent_in_area c.args.loaded.now c.args.number c.parent.result (returns-in-Some-clause-found c) c.parent.ensures.live

pub returns-in-None-clause-found : goal.returns-in-None-clause-found
returns-in-None-clause-found c = parent_of_named c.args.loaded.now c.args.number None c.in-None.ensures.named
