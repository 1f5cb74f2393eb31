use Rattle.std.proofs.Common.{sym, ◌∙◌}
use Rattle.jb_state.specs.declared.loaded.LoadedMessage.{LoadedMessage}
use Rattle.jb_decide.proofs.ReadLemmas.{reading_is}
use Rattle.jb_decide.proofs.reads.read.Goals as goal

pub returns-clause-done : goal.returns-clause-done
returns-clause-done c =
    let message : LoadedMessage = c.in-Some-seen_at.found.message.now in
    reading_is c.args.rules.now c.args.loaded.now c.args.user.now c.args.moment c.args.number (record { place = c.in-Some-seen_at.found.place; head = c.read_head.result }) message
    (sym c.denied.ensures ∙ c.in_default.is) (sym c.in-Some-seen_at.ensures.named) c.read_head.ensures c.in-Some-seen_at.ensures.placed c.requires.sound
