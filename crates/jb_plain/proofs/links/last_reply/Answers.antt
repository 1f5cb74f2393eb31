use Rattle.std.proofs.Common.{reverse, find, sym, ◌∙◌, arith}
use Rattle.std.proofs.lemmas.List.{at_drop_all}
use Rattle.jb_state.specs.Links.{is_reply_to}
use Rattle.jb_plain.specs.Walk.{last_from, linkables_from}
use Rattle.jb_plain.proofs.Walks.{last_from-reverse, number_or-0}
use Rattle.jb_plain.proofs.links.last_reply.Goals as goal

pub returns : goal.returns
returns c =
    let slots = c.args.slots.now in
    let live = linkables_from c.args.base slots in
    let test = is_reply_to live c.args.number in
    sym (at_drop_all (last_from test c.loop-slot.last c.loop-slot.one) slots c.loop-slot.slot-index (omega arith))
    ∙ c.loop-slot.invariant.1
    ∙ last_from-reverse test 0 c.args.base slots
    ∙ number_or-0 (find test (reverse live))
