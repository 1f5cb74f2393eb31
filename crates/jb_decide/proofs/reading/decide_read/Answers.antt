use Rattle.std.proofs.Common.{◌≡◌, ℕ, List, ap, subst, ◌∙◌}
use Rattle.jb_state.specs.Sound.{IsTextWithin}
use Rattle.jb_state.specs.State.{text_of}
use Rattle.jb_state.specs.declared.loaded.LoadedMessage.{LoadedMessage}
use Rattle.jb_model.specs.declared.reply.Reply.TheVariants.{Text}
use Rattle.jb_decide.specs.Decided.{IsAnswerBy}
use Rattle.jb_decide.specs.Read.{letter_in}
use Rattle.jb_decide.proofs.DecidedLemmas.{letter_answer, same_answer, same_message, unchanged_decided, within_is}
use Rattle.jb_decide.proofs.reading.decide_read.Goals as goal

pub read_text-requires : goal.read_text-requires
read_text-requires g c =
    let message : LoadedMessage = c.message_at-message.result.now in
    let kept = rw (← c.loaded-loaded.ensures) at c.requires.kept in
    let holds = rw (← c.loaded-loaded.ensures) at c.requires.holds in
    let inside = within_is c.args.rules.now.slots c.in-Ok.at.place message c.loaded-loaded.result.now c.message_at-message.ensures kept.sound in
    record { within = λ files there. subst (λ (n : ℕ). IsTextWithin n message.text_at message.text_len) (holds files there).loads.texts_len inside.text }

pub decide_short-requires-clause-fits : goal.decide_short-requires-clause-fits
decide_short-requires-clause-fits g c =
    let kept = rw (← c.loaded-loaded.ensures) at c.requires.kept in
    rw (← c.loaded-loaded.ensures) c.in-Ok.ensures.done.step.fits

pub returns-in-Err-clause-decided : goal.returns-in-Err-clause-decided
returns-in-Err-clause-decided g c = rw (← c.loaded-loaded.ensures) (λ texts are.
    unchanged_decided c.args.rules.now c.loaded-loaded.result.now texts (g.D.Disk.device c.args.disk.now).contents c.args.redo.now c.args.user.now c.args.moment _ _ c.unchanged.result c.in-Err.reply
    c.unchanged.ensures.reply c.unchanged.ensures.change c.unchanged.ensures.room c.in-Err.ensures.refused
    (same_answer c.loaded-loaded.result.now texts (g.D.Disk.device c.args.disk.now).contents c.in-Err.reply are.sized) are.sized)

pub returns-in_ok-shown-in-Ok-clause-decided : goal.returns-in_ok-shown-in-Ok-clause-decided
returns-in_ok-shown-in-Ok-clause-decided g c =
    let kept = rw (← c.loaded-loaded.ensures) at c.requires.kept in
    let decided = rw (← c.loaded-loaded.ensures) at c.decide_short.ensures.decided in
    rw (← c.loaded-loaded.ensures) (λ texts are.
    let is = c.in-Ok.ensures.done in
    let from = c.loaded-loaded.result.now in
    let message : LoadedMessage = c.message_at-message.result.now in
    let same : message ≡ is.message = same_message from c.in-Ok.at.place message is.message c.message_at-message.ensures is.here in
    let inside = within_is c.args.rules.now.slots c.in-Ok.at.place message from c.message_at-message.ensures kept.sound in
    let contents = (g.D.Disk.device c.args.disk.now).contents in
    decided c.args.rules.now c.args.user.now c.args.moment _ _ texts contents kept.sound are is.step
    (subst (λ (m : LoadedMessage). IsAnswerBy (letter_in c.args.number c.in-Ok.at.head m) from texts contents (Text c.in_ok-shown-in-Ok.shown)) same
    (letter_answer from texts contents c.args.number c.in-Ok.at.head message c.in_ok-text-in-Ok.text c.in_ok-shown-in-Ok.shown inside.text c.in_ok-text-in-Ok.ensures.sized c.in_ok-shown-in-Ok.ensures
    (λ files there. c.in_ok-text-in-Ok.ensures.found files there ∙ ap (λ (t : List ℕ). text_of t message) (are.told files there)))))
