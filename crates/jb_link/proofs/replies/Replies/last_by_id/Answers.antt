use Rattle.std.proofs.Common.{arith, sym, ◌∙◌, ap}
use Rattle.jb_bytes.specs.declared.subfield.TheConstants.{MSGID}
use Rattle.jb_link.specs.Ids.{lent}
use Rattle.jb_link.proofs.FoundLemmas.{is_least_with, last_by_id, later_found, none_found_later, live_from_base, lower_has_id, no_own_id, none_later, told_apart, told_same}
use Rattle.jb_link.proofs.replies.Replies.last_by_id.Goals as goal

pub returns-in_default : goal.returns-in_default
returns-in_default c =
    let from = live_from_base c.args.loaded.now c.args.parent c.requires.live in
    no_own_id c.args.loaded.now c.args.parent (omega (arith, from, c.requires.base)) (sym c.id_at.ensures ∙ ap lent c.in_default.is)

pub returns-then-ne : goal.returns-then-ne
returns-then-ne c =
    let from = live_from_base c.args.loaded.now c.args.parent c.requires.live in
    lower_has_id c.args.loaded.now c.args.parent c.in-Some.id.now _ (omega (arith, from, c.requires.base)) (sym c.id_at.ensures ∙ ap lent c.in-Some.is) c.least_with.ensures
    (told_apart _ _ (sym c.ne.ensures ∙ c.if-ne.true))

pub returns-then-last-parent : goal.returns-then-last-parent
returns-then-last-parent c =
    let from = live_from_base c.args.loaded.now c.args.parent c.requires.live in
    last_by_id c.args.loaded.now c.args.parent c.unwrap_or-last.result c.in-Some.id.now (omega (arith, from, c.requires.base))
    (sym c.id_at.ensures ∙ ap lent c.in-Some.is)
    (is_least_with MSGID c.args.loaded.now c.in-Some.id.now _ _ c.least_with.ensures (told_same _ _ (sym c.ne.ensures ∙ c.if-ne.false))).1
    (later_found c.args.loaded.now c.args.parent c.in-Some.id.now _ _ c.greatest_with.ensures c.unwrap_or-last.ensures c.if-last-parent.true) c.if-last-parent.true

pub returns-else-last-parent : goal.returns-else-last-parent
returns-else-last-parent c =
    let from = live_from_base c.args.loaded.now c.args.parent c.requires.live in
    none_later c.args.loaded.now c.args.parent c.in-Some.id.now (omega (arith, from, c.requires.base)) (sym c.id_at.ensures ∙ ap lent c.in-Some.is)
    (none_found_later c.args.loaded.now c.args.parent c.in-Some.id.now _ _ c.greatest_with.ensures c.unwrap_or-last.ensures c.if-last-parent.false)
