use Rattle.std.proofs.Common.{◌≡◌, ℕ, List, ap, subst, ◌∙◌}
use Rattle.jb_state.specs.State.{text_of}
use Rattle.jb_state.specs.declared.loaded.LoadedMessage.{LoadedMessage}
use Rattle.jb_model.specs.declared.reply.Reply.TheVariants.{Text}
use Rattle.jb_decide.specs.Decided.{IsAnswerBy}
use Rattle.jb_decide.specs.Read.{letter_in}
use Rattle.jb_decide.proofs.DecidedLemmas.{letter_answer, same_answer, same_message, unchanged_decided, within_is}
use Rattle.jb_decide.proofs.reading.decide_peek.Goals as goal

pub returns-in-Err-clause-decided : goal.returns-in-Err-clause-decided
returns-in-Err-clause-decided g c = rw (← c.loaded-loaded.ensures) (λ moment redo texts are.
    unchanged_decided c.args.rules.now c.loaded-loaded.result.now texts (g.D.Disk.device c.args.disk.now).contents redo c.args.user.now moment _ _ c.unchanged.result c.in-Err.reply
    c.unchanged.ensures.reply c.unchanged.ensures.change c.unchanged.ensures.room (c.in-Err.ensures.refused moment)
    (same_answer c.loaded-loaded.result.now texts (g.D.Disk.device c.args.disk.now).contents c.in-Err.reply are.sized) are.sized)

pub returns-in_ok-shown-in-Ok-clause-decided : goal.returns-in_ok-shown-in-Ok-clause-decided
returns-in_ok-shown-in-Ok-clause-decided g c =
    let kept = rw (← c.loaded-loaded.ensures) at c.requires.kept in
    rw (← c.loaded-loaded.ensures) (λ moment redo texts are.
    let is = c.in-Ok.ensures.done in
    let from = c.loaded-loaded.result.now in
    let message : LoadedMessage = c.message_at-message.result.now in
    let same : message ≡ is.message = same_message from c.in-Ok.place message is.message c.message_at-message.ensures is.here in
    let inside = within_is c.args.rules.now.slots c.in-Ok.place message from c.message_at-message.ensures kept.sound in
    let contents = (g.D.Disk.device c.args.disk.now).contents in
    unchanged_decided c.args.rules.now from texts contents redo c.args.user.now moment _ _ c.unchanged-in-Ok.result (Text c.in_ok-shown-in-Ok.shown)
    c.unchanged-in-Ok.ensures.reply c.unchanged-in-Ok.ensures.change c.unchanged-in-Ok.ensures.room (is.step moment)
    (subst (λ (m : LoadedMessage). IsAnswerBy (letter_in c.args.number m.head m) from texts contents (Text c.in_ok-shown-in-Ok.shown)) same
    (letter_answer from texts contents c.args.number message.head message c.in_ok-text-in-Ok.text c.in_ok-shown-in-Ok.shown inside.text c.in_ok-text-in-Ok.ensures.sized c.in_ok-shown-in-Ok.ensures
    (λ files there. c.in_ok-text-in-Ok.ensures.found files there ∙ ap (λ (t : List ℕ). text_of t message) (are.told files there))))
    are.sized)
