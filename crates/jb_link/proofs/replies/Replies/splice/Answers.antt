use Rattle.jb_link.proofs.ReplyLemmas.{named_is_changed, spliced_after, spliced_first}
use Rattle.jb_link.specs.declared.splicing.Spliced.TheVariants.{First, After}
use Rattle.jb_state.specs.State.{state_of}
use Rattle.jb_link.proofs.replies.Replies.splice.Goals as goal

pub returns-then-last-eq0-clause-named : goal.returns-then-last-eq0-clause-named
returns-then-last-eq0-clause-named c = λ texts.
    spliced_first texts c.args.loaded.now c.args.parent c.last_reply-last.result c.if-parent-eq0.false c.last_reply-last.ensures c.if-last-eq0.true

pub returns-then-last-eq0-clause-changes : goal.returns-then-last-eq0-clause-changes
returns-then-last-eq0-clause-changes c = λ texts number.
    named_is_changed (state_of texts c.args.loaded.now) c.args.parent (First c.args.parent)
    (spliced_first texts c.args.loaded.now c.args.parent c.last_reply-last.result c.if-parent-eq0.false c.last_reply-last.ensures c.if-last-eq0.true) number

pub returns-else-last-eq0-clause-named : goal.returns-else-last-eq0-clause-named
returns-else-last-eq0-clause-named c = λ texts.
    spliced_after texts c.args.loaded.now c.args.parent c.last_reply-last.result c.if-parent-eq0.false c.last_reply-last.ensures c.if-last-eq0.false

pub returns-else-last-eq0-clause-changes : goal.returns-else-last-eq0-clause-changes
returns-else-last-eq0-clause-changes c = λ texts number.
    named_is_changed (state_of texts c.args.loaded.now) c.args.parent (After c.last_reply-last.result)
    (spliced_after texts c.args.loaded.now c.args.parent c.last_reply-last.result c.if-parent-eq0.false c.last_reply-last.ensures c.if-last-eq0.false) number
