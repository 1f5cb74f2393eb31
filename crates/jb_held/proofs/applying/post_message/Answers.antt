use Rattle.std.proofs.Common.{ap, sym, subst, ◌∙◌}
use Rattle.jb_state.specs.Loaded.{with_message_behind}
use Rattle.jb_link.specs.IndexLaws.{IsIndexBefore}
use Rattle.jb_held.proofs.IndexLaws.{index_before_post}
use Rattle.jb_held.proofs.applying.post_message.Goals as goal

pub posted-requires-clause-index : goal.posted-requires-clause-index
posted-requires-clause-index c =
    subst (IsIndexBefore c.args.replies.now) (sym (c.add_message.ensures ∙ ap (with_message_behind c.args.message) c.set_neighbour.ensures))
    (index_before_post c.args.replies.now c.args.message c.args.neighbour c.args.loaded.now c.requires.neighbour c.requires.index)
